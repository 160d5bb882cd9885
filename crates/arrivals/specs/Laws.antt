-- Defines the facts about arrivals that lemmas prove.
use Rattle.std.specs.Prelude.{◌≡◌, false, List, [], ◌∷◌, ◌++◌, All, true}
use Rattle.job_facts.specs.Contents.{AreSame, AreSound, Contents, Entry, is_above}
use Rattle.arrivals.specs.Meaning.{Arrived, contents_after, http_reply_on, is_released}

-- no kept reply has a released number, as in sound contents
abbrev pub AreAbove : Contents → Type 0
AreAbove c = All (λ (e : Entry). is_above c.marks e ≡ true) c.kept

-- the contents after `earlier` and then `later` are the contents after both as one list
abbrev pub AreInTurn : Type 0
AreInTurn = (c : Contents) (earlier later : List Arrived) → AreAbove c → contents_after c (earlier ++ later) ≡ contents_after (contents_after c earlier) later

-- a repeat gets the reply that its arrival got, regardless of the arrivals between them, unless its
-- number was released
abbrev pub RepeatsGetTheirReply : Type 0
RepeatsGetTheirReply = (c : Contents) (a : Arrived) (between : List Arrived) → AreAbove c →
    let after = contents_after c (a ∷ between) in
    is_released after.marks a ≡ false → http_reply_on after a ≡ http_reply_on c a

-- for contents that differ only in the order of sets and maps, an arrival gets the same reply, and
-- the contents after it again differ only in this order
abbrev pub AreAnsweredAlike : Type 0
AreAnsweredAlike = (c d : Contents) (a : Arrived) → AreSound c → AreSame c d → (http_reply_on c a ≡ http_reply_on d a) × AreSame (contents_after c (a ∷ [])) (contents_after d (a ∷ []))
