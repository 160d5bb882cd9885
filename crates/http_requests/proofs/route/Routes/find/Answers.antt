use Rattle.http_requests.proofs.RouteLemmas.{no_route}
use Rattle.http_requests.proofs.route.Routes.find.Goals as goal

pub returns-in_default : goal.returns-in_default
returns-in_default c = no_route c.args.target.now c.in_default.ensures.cases.0
