use Rattle.remaking.proofs.remaking.remake.Goals as goal

pub returns : goal.returns
returns g c = record {
  ok = c.transact.ensures.ok;
  err = c.transact.ensures.err;
  idle = c.transact.ensures.idle;
  crash = c.transact.ensures.crash;
  cause = c.transact.ensures.cause tt;
}
