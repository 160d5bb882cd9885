use Rattle.sqlite.specs.WalFiles.{image_at}
use Rattle.tasks.specs.declared.store_tasks.ServeTask.{ServeTask}
use Rattle.tasks.proofs.Subcommands.{obeys_report, obeys_serve, obeys_streams}
use Rattle.tasks.proofs.obeying.obey_noted.Goals as goal

pub returns-in-Serve : goal.returns-in-Serve
returns-in-Serve g c =
    let task : ServeTask = record { rt = c.args.rt; path = c.as_str-path.result; port = c.in-Serve.port; turns = c.in-Serve.turns; level = c.args.level } in
    obeys_serve task c.args.words c.in-Serve.db c.wanted_of-wanted.result c.serve.result c.in-Serve.is c.wanted_of-wanted.ensures c.as_str-path.ensures.value c.serve.ensures

pub returns-in-Report : goal.returns-in-Report
returns-in-Report g c =
    obeys_report c.args.words c.in-Report.db c.in-Report.batch c.wanted_of-wanted.result c.args.level c.report.result c.in-Report.is c.wanted_of-wanted.ensures c.report.ensures

pub returns-in-Feed : goal.returns-in-Feed
returns-in-Feed g c = rw c.in-Feed.is c.feed.ensures.feeds

pub returns-in_default : goal.returns-in_default
returns-in_default g c = obeys_streams _ (image_at g.S.Start) _ c.args.level g.E.Write.contents c.args.events.now c.over_streams.new.events c.args.words c.over_streams.result c.over_streams.ensures
