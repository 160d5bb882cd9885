-- Statements that run one after the other.
use Rattle.std.proofs.Common.{◌≡◌, ◌≢◌, ◌++◌, ◌∙◌, ℕ, List, [], ◌∷◌, map, Result, Ok, Err, IsErr, IsTrue, subst, refl, sym}
use Rattle.sqlite.specs.Effect.{Database}
use Rattle.sqlite.specs.State.{KeepsCommit, State}
use Rattle.sqlite.specs.declared.error.Error.{Error}
use Rattle.sqlite.proofs.InsideLemmas.{keeps_then}
use Rattle.sql_base.specs.Ends.{Inside, Wrote}
use Rattle.sql_tables.specs.Each.{Each, WentOn, WroteEach}

module _ {X : Type 0} (R : X → Database → Database → Type 0) where
  -- the statements of one list, and then the statements of another
  each_then : (items more : List X) (old mid new : Database) → Each R items old mid → Each R more mid new → Each R (items ++ more) old new
  each_then [] more old mid new same made = subst (λ d. Each R more d new) same made
  each_then (x ∷ items) more old mid new first made = (first.0, first.1, each_then items more first.0 mid new first.2 made)

  pub record Parts (items more : List X) (old new : Database) : Type 0 where
    pub mid : Database
    pub first : Each R items old mid
    pub rest : Each R more mid new

  -- a list in two parts
  pub parts : (items more : List X) (old new : Database) → Each R (items ++ more) old new → Parts items more old new
  parts [] more old new made = record { mid = old; first = refl; rest = made }
  parts (x ∷ items) more old new made =
      let it = parts items more made.0 new made.2 in
      record { mid = it.mid; first = (made.0, made.1, it.first); rest = it.rest }

  inside_then : (items more : List X) (a b c : State) → WentOn R items a b → WentOn R more b c → items ++ more ≢ [] → IsTrue c.in_transaction × IsTrue a.is_open
  inside_then [] more a b c one two some = let it = two.inside some in (it.0, one.was_open it.1)
  inside_then (x ∷ items) more a b c one two some = let it = one.inside (λ none. cc) in (two.goes_on it.0, it.1)

  went_then : (items more : List X) (a b c : State) → WentOn R items a b → WentOn R more b c → WentOn R (items ++ more) a c
  went_then items more a b c one two = record {
    made = each_then items more a.now b.now c.now one.made two.made;
    committed = two.committed ∙ one.committed;
    was_open = λ live. one.was_open (two.was_open live);
    goes_on = λ within. two.goes_on (one.goes_on within);
    inside = inside_then items more a b c one two;
  }

  -- one more statement
  pub one_further : (items more : List X) (x : X) (a b c : State) → more ≡ items ++ x ∷ [] → WentOn R items a b → Inside (R x) b c → WentOn R more a c
  one_further items more x a b c is so_far it =
      subst (λ xs. WentOn R xs a c) (sym is) (went_then items (x ∷ []) a b c so_far
      (record { made = (c.now, it.made, refl); committed = it.committed; was_open = λ _. it.was_open; goes_on = λ _. it.inside; inside = λ _. (it.inside, it.was_open) }))

  module _ {Y : Type 0} where
    pub wrote_then : {Z : Type 0} (items more : List X) (a b c : State) (y : Y) (r : Result Z Error) → WroteEach R items a b (Ok y) → WroteEach R more b c r → WroteEach R (items ++ more) a c r
    wrote_then items more a b c y (Ok z) one two = record { well = went_then items more a b c one.well two.well; kept = keeps_then a b c one.kept two.kept }
    wrote_then items more a b c y (Err e) one two = record { well = tt; kept = keeps_then a b c one.kept two.kept }

    -- an error in one of the statements
    pub failed_each : (items : List X) (a b : State) (r : Result Y Error) → IsErr r → KeepsCommit a b → WroteEach R items a b r
    failed_each items a b (Ok y) is kept = absurd (cc)
    failed_each items a b (Err e) is kept = record { well = tt; kept = kept }

-- the effect of the statements of `texts`, if each item of the list has one of the texts
module _ {X : Type 0} (sql : X → List ℕ) (R : List ℕ → Database → Database → Type 0) where
  each_text : (items : List X) (old new : Database) → Each (λ x. R (sql x)) items old new → Each R (map sql items) old new
  each_text [] old new same = same
  each_text (x ∷ items) old new made = (made.0, made.1, each_text items made.0 new made.2)

  some_item : (items : List X) → map sql items ≢ [] → items ≢ []
  some_item [] some = λ none. some refl
  some_item (x ∷ items) some = λ none. cc

  -- the effect of all statements
  pub all_wrote : {Y : Type 0} (T : Database → Database → Type 0) (texts : List (List ℕ)) (items : List X) (a b : State) (r : Result Y Error) → map sql items ≡ texts → texts ≢ [] → (Each R texts a.now b.now → T a.now b.now)
      → WroteEach (λ x. R (sql x)) items a b r → Wrote T a b r
  all_wrote T texts items a b (Ok y) is some all it =
      let inside = it.well.inside (some_item items (λ none. some (sym is ∙ none))) in
      record {
        well = record {
          made = all (subst (λ ts. Each R ts a.now b.now) is (each_text items a.now b.now it.well.made));
          committed = it.well.committed;
          inside = inside.0;
          was_open = inside.1;
        };
        kept = it.kept;
      }
  all_wrote T texts items a b (Err e) is some all it = record { well = tt; kept = it.kept }
