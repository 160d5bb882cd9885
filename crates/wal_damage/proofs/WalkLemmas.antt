-- The scan after one more frame, and WALs without lost commits.
use Rattle.std.proofs.Common.{◌≡◌, ℕ, zero, suc, ◌+◌, ◌==◌, ◌≤◌, ◌&&◌, not, Bool, true, false, if◌then◌else◌, List, length, refl, sym, ap, ◌∙◌, arith}
use Rattle.std.proofs.lemmas.Bool.{cond-true, cond-false, and_from, and_left, and_right, not_from_true, not_from_false, false≢true}
use Rattle.sqlite_wal.specs.Format.{count_page, page_number}
use Rattle.sqlite_wal.specs.Recovery.{frame, header, sum_before}
use Rattle.wal_damage.specs.Damage.{commits_before, commits_behind, goes_on_to, has_count_to, has_frames, is_shut_to, frames_in, is_cleared, is_header, is_page_size, is_valid, is_whole_to, look_at, look_to, nothing, lost_to, page_size_of, reads_big, salts_at}
use Rattle.wal_damage.specs.Walks.{advanced, walk_to}
use Rattle.wal_damage.specs.declared.walk.Walk.{Walk}

-- ---- one more frame

same_choice : {A : Type 0} (h : Bool) (a b c : A) → (if h then (if h then a else b) else c) ≡ (if h then a else c)
same_choice true a b c = refl
same_choice false a b c = refl

abbrev with_salts : ℕ → List ℕ → ℕ → ℕ × ℕ → Walk
with_salts page_size log i salts = record {
  has_header = is_header (header log);
  is_big = reads_big log;
  salts = salts;
  sum = sum_before page_size log i;
  commits = commits_before page_size log i;
  is_whole = is_whole_to page_size log i;
  lost = lost_to page_size log i;
  commits_behind = commits_behind page_size log i;
  goes_on = goes_on_to page_size log i;
  has_count = has_count_to page_size log i;
  is_shut = is_shut_to page_size log i;
}

pub walk_more : (page_size : ℕ) (log : List ℕ) (i : ℕ) → advanced (walk_to page_size log i) (frame page_size log i) ≡ walk_to page_size log (suc i)
walk_more page_size log zero = refl
walk_more page_size log (suc i) =
    ap (with_salts page_size log (suc (suc i))) (same_choice (is_header (header log)) (salts_at (header log) 16) (salts_at (frame page_size log i) 8) (salts_at (frame page_size log (suc i)) 8))

at_most_one : (b : Bool) → (if b then 1 else 0) ≤ 1
at_most_one true = omega arith
at_most_one false = omega arith

-- A frame starts at most one lost commit.
pub lost_more : (walk : Walk) (frame : List ℕ) → (advanced walk frame).lost ≤ walk.lost + 1
lost_more walk frame =
    let valid = is_valid walk.is_big walk.salts walk.sum frame in
    omega (arith, at_most_one (not walk.is_whole && walk.commits && valid && (page_number frame == count_page)))

-- ---- WALs without lost commits

frames_none : (page_size : ℕ) (log : List ℕ) → length log ≤ 32 → frames_in page_size log ≡ 0
frames_none page_size log short = omega arith

either_way : {A : Type 0} (b : Bool) (x y : A) → x ≡ y → (if b then x else y) ≡ y
either_way true x y is = is
either_way false x y is = refl

pub look_at_none : (db log : List ℕ) → length log ≤ 32 → look_at db log ≡ nothing
unfolding look_at
look_at_none db log short =
    let size = page_size_of db (header log) in
    either_way (has_frames db log) (look_to size log (frames_in size log)) nothing (ap (look_to size log) (frames_none size log short))

without_frames : (db log : List ℕ) → has_frames db log ≡ false → look_at db log ≡ nothing
unfolding look_at
without_frames db log none = cond-false _ _ _ none

pub look_at_cleared : (db log : List ℕ) → is_cleared (header log) ≡ true → look_at db log ≡ nothing
look_at_cleared db log cleared =
    without_frames db log (and_left (not (is_cleared (header log))) (is_page_size (page_size_of db (header log))) (not_from_true _ cleared))

pub look_at_unsized : (db log : List ℕ) → is_page_size (page_size_of db (header log)) ≡ false → look_at db log ≡ nothing
look_at_unsized db log unsized =
    without_frames db log (and_right (not (is_cleared (header log))) (is_page_size (page_size_of db (header log))) unsized)

-- ---- a WAL whose frames are examined

with_frames : (db log : List ℕ) → has_frames db log ≡ true → let size = page_size_of db (header log) in look_at db log ≡ look_to size log (frames_in size log)
unfolding look_at
with_frames db log some = cond-true _ _ _ some

pub look_at_frames : (db log : List ℕ) (size : ℕ) → size ≡ page_size_of db (header log) → is_cleared (header log) ≡ false → is_page_size size ≡ true → look_at db log ≡ look_to size log (frames_in size log)
look_at_frames db log size is uncleared sized =
    let allowed : is_page_size (page_size_of db (header log)) ≡ true = sym (ap is_page_size is) ∙ sized in
    with_frames db log (and_from (not (is_cleared (header log))) (is_page_size (page_size_of db (header log))) (not_from_false _ uncleared) allowed)
    ∙ sym (ap (λ (n : ℕ). look_to n log (frames_in n log)) is)

-- ---- conditions

pub and_with : (a b r : Bool) → a ≡ true → r ≡ b → r ≡ (a && b)
and_with true b r is same = same
and_with false b r is same = absurd (false≢true is)
