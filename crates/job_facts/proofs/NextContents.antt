-- The first contents of a store are sound. The contents after a commit or a release are also sound.
use Rattle.std.proofs.Common.{◌≡◌, ℕ, Bool, true, false, List, [], ◌∷◌, ◌++◌, All, not, refl, sym, ◌∙◌, arith}
use Rattle.std.specs.Prelude.{AllPairs, IsTrue, bytes_eq, filter}
use Rattle.std.proofs.lemmas.Bool.{lt-ltb, not-true}
use Rattle.std.proofs.lemmas.List.Elements.{All-filter, All-nil, All-push, All-weaker, filter_passes}
use Rattle.std.proofs.lemmas.List.Kept.{AllPairs-filter}
use Rattle.std.proofs.lemmas.List.Quantifiers.{all_pairs_push}
use Rattle.std.proofs.lemmas.List.Sorted.{IsPermutation-refl, IsPermutation-sym, IsPermutation-trans}
use Rattle.job_facts.specs.declared.change.Change.{Change}
use Rattle.job_facts.specs.Contents.{AreSame, AreSound, Contents, Entry, IsEntry, IsMark, IsNewEntry, IsOwed, IsOwedRelease, Mark, committed, has_mark, is_above, is_of_number, mark_of, no_contents, released, with_mark}
use Rattle.job_facts.proofs.Lists.{find-None}
use Rattle.job_facts.proofs.SoundFacts.{sound_nothing}

abbrev AreApart : Entry → Entry → Type 0
AreApart d e = is_of_number d e ≡ false

abbrev AreOfTwo : Mark → Mark → Type 0
AreOfTwo m n = bytes_eq m.client n.client ≡ false

pub nothing_sound : AreSound no_contents
nothing_sound = record {
  facts = sound_nothing;
  kept = All-nil IsEntry;
  kept_once = λ i j d before within. absurd (omega arith);
  marks = All-nil IsMark;
  marked_once = λ i j d before within. absurd (omega arith);
  above = All-nil (λ (e : Entry). IsTrue (is_above [] e));
}

pub AreSame-refl : (c : Contents) → AreSame c c
AreSame-refl c = record {
  facts = record {
    products = IsPermutation-refl c.facts.products;
    lots = IsPermutation-refl c.facts.lots;
    batches = refl;
    sessions = refl;
    discarded = IsPermutation-refl c.facts.discarded;
    remakes = IsPermutation-refl c.facts.remakes;
    withdrawn = IsPermutation-refl c.facts.withdrawn;
    closed = IsPermutation-refl c.facts.closed;
  };
  kept = IsPermutation-refl c.kept;
  marks = IsPermutation-refl c.marks;
}

-- If `b` is the same as `c` and the same as `d`, then `c` is the same as `d`.
pub between : (b c d : Contents) → AreSame b c → AreSame b d → AreSame c d
between b c d one two = record {
  facts = record {
    products = IsPermutation-trans _ _ _ (IsPermutation-sym _ _ one.facts.products) two.facts.products;
    lots = IsPermutation-trans _ _ _ (IsPermutation-sym _ _ one.facts.lots) two.facts.lots;
    batches = sym one.facts.batches ∙ two.facts.batches;
    sessions = sym one.facts.sessions ∙ two.facts.sessions;
    discarded = IsPermutation-trans _ _ _ (IsPermutation-sym _ _ one.facts.discarded) two.facts.discarded;
    remakes = IsPermutation-trans _ _ _ (IsPermutation-sym _ _ one.facts.remakes) two.facts.remakes;
    withdrawn = IsPermutation-trans _ _ _ (IsPermutation-sym _ _ one.facts.withdrawn) two.facts.withdrawn;
    closed = IsPermutation-trans _ _ _ (IsPermutation-sym _ _ one.facts.closed) two.facts.closed;
  };
  kept = IsPermutation-trans _ _ _ (IsPermutation-sym _ _ one.kept) two.kept;
  marks = IsPermutation-trans _ _ _ (IsPermutation-sym _ _ one.marks) two.marks;
}

pub AreSame-trans : (b c d : Contents) → AreSame b c → AreSame c d → AreSame b d
AreSame-trans b c d one two = between c b d (between b c b one (AreSame-refl b)) two

module _ (c : Contents) (entry : Entry) (sound : AreSound c) where
  -- the kept replies after adding one under a new number
  more_kept : IsNewEntry entry c → All IsEntry (c.kept ++ entry ∷ [])
  more_kept new = All-push IsEntry c.kept entry sound.kept new.ranged

  more_kept_once : IsNewEntry entry c → AllPairs AreApart (c.kept ++ entry ∷ [])
  more_kept_once new = all_pairs_push AreApart c.kept entry sound.kept_once (find-None (λ (d : Entry). is_of_number d entry) c.kept new.first)

  pub sound_committed : (change : Change) → IsOwed change entry c → AreSound (committed c change entry)
  sound_committed change owed = record {
    facts = owed.keeps.sound;
    kept = more_kept owed.is_new;
    kept_once = more_kept_once owed.is_new;
    marks = sound.marks;
    marked_once = sound.marked_once;
    above = All-push (λ (e : Entry). IsTrue (is_above c.marks e)) c.kept entry sound.above (lt-ltb (mark_of c.marks entry.client) entry.number owed.is_new.live);
  }

  pub sound_released : (upto : ℕ) → IsOwedRelease upto entry c → AreSound (released c upto entry)
  sound_released upto owed =
      let mark : Mark = record { client = entry.client; upto = upto } in
      let is_other : Mark → Bool = λ m. not (has_mark entry.client m) in
      let others : List Mark = filter is_other c.marks in
      let live : Entry → Bool = is_above (with_mark c.marks entry.client upto) in
      let ranged : IsMark mark = record { client = owed.is_new.ranged.client; least = owed.least; most = omega (arith, owed.near, owed.is_new.ranged.most) } in
      record {
        facts = sound.facts;
        kept = All-filter live IsEntry (c.kept ++ entry ∷ []) (more_kept owed.is_new);
        kept_once = AllPairs-filter AreApart live (c.kept ++ entry ∷ []) (more_kept_once owed.is_new);
        marks = All-push IsMark others mark (All-filter is_other IsMark c.marks sound.marks) ranged;
        marked_once =
            all_pairs_push AreOfTwo others mark (AllPairs-filter AreOfTwo is_other c.marks sound.marked_once)
            (All-weaker (λ m. is_other m ≡ true) (λ m. AreOfTwo m mark) (λ m. not-true (has_mark entry.client m)) others (filter_passes is_other c.marks));
        above = filter_passes live (c.kept ++ entry ∷ []);
      }
