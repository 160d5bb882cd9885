use Rattle.std.proofs.Common.{◌≡◌, ℕ, fold, max, take}
use Rattle.job_facts.specs.Contents.{Entry}
use Rattle.book_lines.specs.Machines.{boot_of}
use Rattle.book_lines.proofs.machines.last_boot.Given as goal

abbrev pub invariant-loop-reply : goal.invariant-loop-reply
invariant-loop-reply l = l.last ≡ fold (λ last (k : ℕ × Entry). max last (boot_of k.1.number)) l.boot (take l.reply-index l.replies)
