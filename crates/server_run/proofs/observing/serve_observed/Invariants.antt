use Rattle.server_run.proofs.observing.serve_observed.Given as goal

abbrev pub ghosts-serve_from : goal.ghosts-serve_from
ghosts-serve_from g a = record { brings = g.I.ByteSource.brings a.incoming; contents = g.W.Write.contents a.writer }
