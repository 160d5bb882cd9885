-- Event lines that are written one after another.
use Rattle.std.proofs.Common.{◌≢◌, ℕ, List, [], ◌∷◌, ◌++◌, Option, Some, None, refl, sym, ◌∙◌, append-nil}
use Rattle.std.specs.Io.KnownBytes.{Appends, Keeps}
use Rattle.std.proofs.KnownBytes.{Appends-trans, Keeps-refl, Keeps-trans}
use Rattle.event_lines.specs.Notes.{Notes, NotesAll}
use Rattle.event_lines.specs.declared.level.Level.{Level}
use Rattle.event_lines.specs.declared.level.Level.TheVariants.{Off, Usual, All}
use Rattle.text_io.specs.Written.{AppendsBeginning, line}

kept-appends : (before after : Option (List ℕ)) → Keeps before after → Appends before after []
kept-appends None after same = tt
kept-appends (Some xs) None same = absurd same
kept-appends (Some xs) (Some ys) same = same ∙ sym (append-nil xs)

-- If nothing was written, a prefix of `text` was written: the empty one.
nothing-begins : (before after : Option (List ℕ)) (text : List ℕ) → Keeps before after → AppendsBeginning before after text
nothing-begins before after text same = ([], text, refl, kept-appends before after same)

-- If nothing was written up to `now`, and then a prefix of `text`, a prefix of `text` was written.
begins-kept : (before now after : Option (List ℕ)) (text : List ℕ) → Keeps before now → AppendsBeginning now after text → AppendsBeginning before after text
begins-kept before now after text same (front, back, all, grows) = (front, back, all, Appends-trans before now after [] front (kept-appends before now same) grows)

-- If nothing was written, `Notes` is true of any line.
none-noted : (level : Level) (before after : Option (List ℕ)) (text : List ℕ) → Keeps before after → Notes level before after text
none-noted Off before after text same = same
none-noted Usual before after text same = nothing-begins before after (line text) same
none-noted All before after text same = nothing-begins before after (line text) same

kept-noted : (level : Level) (before now after : Option (List ℕ)) (text : List ℕ) → Keeps before now → Notes level now after text → Notes level before after text
kept-noted Off before now after text same noted = Keeps-trans before now after same noted
kept-noted Usual before now after text same noted = begins-kept before now after (line text) same noted
kept-noted All before now after text same noted = begins-kept before now after (line text) same noted

-- Unless the level is `Off`, `NotesAll` is true of a line if the line or a prefix of it was
-- written.
pub one-noted : (level : Level) (before after : Option (List ℕ)) (text : List ℕ) → level ≢ Off → AppendsBeginning before after (line text) → NotesAll level before after (text ∷ [])
one-noted Off before after text on begun = absurd (on refl)
one-noted Usual before after text on begun = (after, begun, Keeps-refl after)
one-noted All before after text on begun = (after, begun, Keeps-refl after)

pub none-all : (level : Level) (known : Option (List ℕ)) → NotesAll level known known []
none-all level known = Keeps-refl known

-- If nothing was written up to `now` and `NotesAll` is true from then on, it is true from `before`
-- on.
kept-all : (level : Level) (before now after : Option (List ℕ)) (texts : List (List ℕ)) → Keeps before now → NotesAll level now after texts → NotesAll level before after texts
kept-all level before now after [] same noted = Keeps-trans before now after same noted
kept-all level before now after (text ∷ texts) same (mid, first, rest) = (mid, kept-noted level before now mid text same first, rest)

-- If `NotesAll` is true of the lines `texts` and then of `more`, it is true of all of them
-- together.
pub both-all : (level : Level) (before now after : Option (List ℕ)) (texts more : List (List ℕ)) → NotesAll level before now texts → NotesAll level now after more
    → NotesAll level before after (texts ++ more)
both-all level before now after [] more same noted = kept-all level before now after more same noted
both-all level before now after (text ∷ texts) more (mid, first, rest) noted = (mid, first, both-all level mid now after texts more rest noted)

-- If nothing was written, `Notes` and `NotesAll` are true of any lines.
lost-noted : (level : Level) (known : Option (List ℕ)) (text : List ℕ) → Notes level known known text
lost-noted level known text = none-noted level known known text (Keeps-refl known)

pub lost-all : (level : Level) (before after : Option (List ℕ)) (texts : List (List ℕ)) → Keeps before after → NotesAll level before after texts
lost-all level before after [] same = same
lost-all level before after (text ∷ texts) same = (before, lost-noted level before text, lost-all level before after texts same)

-- At level `Off` nothing is written.
pub off-all : (before after : Option (List ℕ)) (texts : List (List ℕ)) → NotesAll Off before after texts → Keeps before after
off-all before after [] noted = noted
off-all before after (text ∷ texts) (mid, first, rest) = Keeps-trans before mid after first (off-all mid after texts rest)
