use Rattle.http_requests.proofs.PostLemmas.{job_means, on_made}
use Rattle.http_requests.proofs.post.job_text.Goals as goal

pub returns-clause-means : goal.returns-clause-means
returns-clause-means c = λ fits.
    on_made c.text_with.result _ _ _ (c.text_with.ensures.heard fits) c.text_with.ensures.name
    (λ text heard name. job_means c.args.client.now c.args.number c.args.body.now text name c.requires.least c.requires.most heard)
