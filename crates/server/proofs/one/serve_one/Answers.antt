use Rattle.server.proofs.one.serve_one.Goals as goal

pub returns : goal.returns
returns g c =
    let one = c.serve_by-meaning.ensures in
    (one.0, one.1, one.2, one.3, one.4)
