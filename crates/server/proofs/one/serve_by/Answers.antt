use Rattle.std.proofs.Common.{false, [], refl, inl}
use Rattle.std.proofs.KnownBytes.{Appends-nil}
use Rattle.http_requests.specs.Meant.{Asks, Broken, Refused}
use Rattle.server.specs.declared.served.End.TheVariants as ended
use Rattle.server.specs.declared.served.Served.{Served}
use Rattle.server.specs.Exchanges.{Exchange}
use Rattle.reply_store.proofs.Handling.{Stays-refl}
use Rattle.server.proofs.Stays.{serves_behind, unavailable}
use Rattle.server.proofs.one.serve_by.Goals as goal

pub returns-in-Asks : goal.returns-in-Asks
returns-in-Asks g c =
    let state = g.S.JobStore.state in
    let m = c.in-Asks.ensures in
    let t = c.serve_asked-served.ensures in
    let e : Exchange = record { input = m.0; meant = Asks c.in-Asks.asked; written = t.0; served = c.serve_asked-served.result } in
    (e, m.1, t.1, refl, serves_behind (state c.args.store.now) (state c.serve_asked-served.new.store) e m.2.1 m.2.0 t.2, refl)

pub returns-in-Broken : goal.returns-in-Broken
returns-in-Broken g c =
    let m = c.in-Broken.ensures in
    let served : Served = record { end = ended.Broken; decided = false } in
    let e : Exchange = record { input = m.0; meant = Broken; written = []; served = served } in
    (e, m.1, Appends-nil _, refl, record { means = m.2; does = (Stays-refl (g.S.JobStore.state c.args.store.now), refl); answered = λ h d held. inl (refl, refl); fixed = λ none d. inl (refl, refl); next = λ d held. tt }, refl)

pub returns-in-Refused : goal.returns-in-Refused
returns-in-Refused g c =
    let m = c.in-Refused.ensures in
    let t = c.refuse.ensures.written in
    let undecided = c.refuse.ensures.decided in
    let e : Exchange = record { input = m.0; meant = Refused c.in-Refused.why; written = t.0; served = c.refuse.result } in
    (e, m.1, t.1, refl, record { means = m.2; does = (Stays-refl (g.S.JobStore.state c.args.store.now), undecided); answered = λ h d held. inl (undecided, t.2); fixed = λ none d. inl (undecided, t.2); next = λ d held. tt }, refl)

pub returns-in-Memory : goal.returns-in-Memory
returns-in-Memory g c =
    let s = g.S.JobStore.state c.args.store.now in
    let m = c.in-Memory.ensures in
    let t = c.refuse-in-Memory.ensures.written in
    let meant = m.2.0 in
    let e : Exchange = record { input = m.0; meant = meant.0; written = t.0; served = c.refuse-in-Memory.result } in
    (e, m.1, t.1, refl, serves_behind s s e m.2.1 meant.1 (unavailable meant.0 s e.served t.0 c.refuse-in-Memory.ensures.decided t.2), tt)
