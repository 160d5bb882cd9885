use Rattle.std.proofs.Common.{length, take, drop, sym, arith, length-take-le, refl}
use Rattle.std.proofs.lemmas.List.{take-append-drop}
use Rattle.loopback.proofs.ArrivedLemmas.{body_told, message_told, refused_told, searched}
use Rattle.loopback.proofs.arrived.progress_on.Goals as goal

pub progress_from-requires-clause-searched : goal.progress_from-requires-clause-searched
progress_from-requires-clause-searched c =
    searched (take c.args.from c.args.front.now) c.args.progress (omega (arith, length-take-le c.args.from c.args.front.now c.requires.within, c.requires.within, c.requires.few)) c.in-Head.is c.requires.told

pub returns-in-Body : goal.returns-in-Body
returns-in-Body c =
    let front = c.args.front.now in
    body_told (take c.args.from front) (drop c.args.from front) front c.args.progress c.progress_of.result c.in-Body.total (length front) c.in-Body.is (sym (take-append-drop c.args.from front)) refl c.progress_of.ensures c.requires.told

pub returns-in-Message : goal.returns-in-Message
returns-in-Message c =
    let front = c.args.front.now in
    message_told (take c.args.from front) (drop c.args.from front) front c.args.progress c.in-Message.is (sym (take-append-drop c.args.from front)) c.requires.told

pub returns-in-Refused : goal.returns-in-Refused
returns-in-Refused c =
    let front = c.args.front.now in
    refused_told (take c.args.from front) (drop c.args.from front) front c.args.progress c.in-Refused.is (sym (take-append-drop c.args.from front)) c.requires.told
