-- If the rows consist of bytes, their commands consist of bytes.
use Rattle.std.proofs.Common.{◌≤◌, ◌<◌, ◌+◌, ◌*◌, ◌/◌, ◌%◌, ℕ, Bool, cond, List, [], ◌∷◌, ◌++◌, length, map, drop, get_or, All, sym, subst, arith}
use Rattle.std.specs.Prelude.{◌==◌, ◌&&◌, nat_le}
use Rattle.std.specs.Int.{w16, to_be_bytes}
use Rattle.std.specs.List.{flat_map, range_with_len, enumerate_from}
use Rattle.std.proofs.lemmas.Bool.{cond_both, leb-true}
use Rattle.std.proofs.lemmas.List.Elements.{All-append, All-cons, All-drop, All-filter, All-head, All-map, All-nil, All-tail, All-take, All-weaker}
use Rattle.std.proofs.lemmas.List.{length-take, get_or_default}
use Rattle.dgi.specs.Coding.{IsSent, coded, short_length}
use Rattle.store_data.specs.declared.row.Enc.{Enc}
use Rattle.store_data.specs.declared.row.Enc.TheVariants.{Plain}
use Rattle.store_data.specs.declared.row.Product.{Product}
use Rattle.store_data.specs.declared.row.Row.{Row}
use Rattle.store_data.specs.Groups.{grouped}
use Rattle.store_data.specs.Sequence.{Application, Command, IsApplication, IsPlan, Piece, Segment, aid_of, application_commands, application_of, applications_of}
use Rattle.store_data.specs.Sequence.{commands_of, enc_bits, piece_count, piece_of, pieces_of, plan_of, rows_of_rank, segment_of, segments_of, select_command, store_data_command, store_data_commands}
use Rattle.store_data.specs.Ranks.{ranks}
use Rattle.store_data.proofs.IsPlanLemmas.{All-grouped}
use Rattle.store_data.proofs.RankLemmas.{All-flat_map}

abbrev pub AreBytes : List ℕ → Type 0
AreBytes xs = All (λ b. b < 256) xs

all_flat : {X Y : Type 0} (P : X → Type 0) (Q : Y → Type 0) (f : X → List Y) → ((x : X) → P x → All Q (f x)) → (xs : List X) → All P xs → All Q (flat_map f xs)
all_flat P Q f each [] all = All-nil Q
all_flat P Q f each (x ∷ xs) all = All-append Q (f x) (flat_map f xs) (each x (All-head P x xs all)) (all_flat P Q f each xs (All-tail P x xs all))

pub all_numbered : {X : Type 0} (P : X → Type 0) (n m : ℕ) (xs : List X) → n + length xs ≤ m → All P xs → All (λ (e : ℕ × X). (e.0 < m) × P e.1) (enumerate_from n xs)
all_numbered {X = X} P n m [] few all = All-nil (λ (e : ℕ × X). (e.0 < m) × P e.1)
all_numbered {X = X} P n m (x ∷ xs) few all =
    All-cons (λ (e : ℕ × X). (e.0 < m) × P e.1) (n, x) (enumerate_from (n + 1) xs) (omega (arith, few), All-head P x xs all) (all_numbered P (n + 1) m xs (omega (arith, few)) (All-tail P x xs all))

-- ---- shortest encodings

byte_cons : (x : ℕ) (xs : List ℕ) → x < 256 → AreBytes xs → AreBytes (x ∷ xs)
byte_cons x xs small all = All-cons (λ b. b < 256) x xs small all

no_bytes : AreBytes []
no_bytes = All-nil (λ b. b < 256)

two_bytes : (n : ℕ) → AreBytes (to_be_bytes w16 n)
two_bytes n = byte_cons (n / 256 % 256) (n % 256 ∷ []) (omega arith) (byte_cons (n % 256) [] (omega arith) no_bytes)

length_bytes : (n : ℕ) → AreBytes (short_length n)
length_bytes n =
    cond_both {A = List ℕ} (nat_le n 254) (n ∷ []) (255 ∷ to_be_bytes w16 n) AreBytes
    (λ short. byte_cons n [] (omega (arith, leb-true n 254 short)) no_bytes) (λ long. byte_cons 255 (to_be_bytes w16 n) (omega arith) (two_bytes n))

pub coded_bytes : (xs : List ℕ) → IsSent xs → AreBytes xs
unfolding coded
coded_bytes xs is =
    let g = is.0 in
    let body : AreBytes g.body = λ k d within. subst (λ n. n < 256) (get_or_default g.body k 0 d within) (is.1.bytes k) in
    subst AreBytes (sym is.2) (All-append (λ b. b < 256) (to_be_bytes w16 g.id) (short_length (length g.body) ++ g.body) (two_bytes g.id)
    (All-append (λ b. b < 256) (short_length (length g.body)) g.body (length_bytes (length g.body)) body))

-- ---- rows, segments and applications

pub record IsByteRow (row : Row) : Type 0 where
  pub aid : AreBytes row.aid
  pub coded : AreBytes row.coded

abbrev IsByteSegment : Segment → Type 0
IsByteSegment s = AreBytes s.bytes

record IsByteApplication (a : Application) : Type 0 where
  aid : AreBytes a.aid
  segments : All IsByteSegment a.segments

segment_bytes : (rows : List Row) → All IsByteRow rows → All IsByteSegment (segment_of rows)
segment_bytes [] all = All-nil IsByteSegment
segment_bytes (row ∷ more) all =
    All-cons IsByteSegment _ [] (all_flat IsByteRow (λ b. b < 256) (λ (r : Row). r.coded) (λ r is. is.coded) (row ∷ more) all) (All-nil IsByteSegment)

aid_bytes : (rows : List Row) → All IsByteRow rows → AreBytes (aid_of rows)
aid_bytes [] all = All-nil (λ b. b < 256)
aid_bytes (row ∷ more) all = (All-head IsByteRow row more all).aid

application_bytes : (rows : List Row) → All IsByteRow rows → IsByteApplication (application_of rows)
unfolding segments_of
application_bytes rows all = record {
  aid = aid_bytes rows all;
  segments = All-flat_map IsByteSegment (λ r. segment_of (rows_of_rank rows r)) (λ r. segment_bytes (rows_of_rank rows r) (All-filter _ IsByteRow rows all)) ranks;
}

applications_bytes : (rows : List Row) → All IsByteRow rows → All IsByteApplication (applications_of rows)
unfolding applications_of
applications_bytes rows all =
    let aids : Row → List ℕ = λ row. row.aid in
    All-map IsByteApplication application_of (grouped aids rows) (All-grouped aids IsByteRow (λ group. IsByteApplication (application_of group)) rows all (λ group each some. application_bytes group each))

-- ---- commands

record IsBytePiece (max : ℕ) (p : Piece) : Type 0 where
  bytes : AreBytes p.bytes
  few : length p.bytes ≤ max

abbrev pub IsByteCommand : Command → Type 0
IsByteCommand c = AreBytes c.bytes

enc_small : (e : Enc) → enc_bits e ≤ 96
enc_small Plain = omega arith
enc_small e = omega arith

pieces_bytes : (max : ℕ) (s : Segment) → IsByteSegment s → All (IsBytePiece max) (pieces_of max s)
unfolding pieces_of
pieces_bytes max s is =
    let count = piece_count (length s.bytes) max in
    let make : ℕ → Piece = λ j. record { enc = s.enc; bytes = piece_of s.bytes max j; is_tolerant_last = s.tol && (j + 1 == count) } in
    All-map (IsBytePiece max) make (range_with_len 0 count)
    (λ k d within. record {
      bytes = All-take (λ b. b < 256) max (drop (get_or (range_with_len 0 count) k d * max) s.bytes) (All-drop (λ b. b < 256) (get_or (range_with_len 0 count) k d * max) s.bytes is);
      few = omega (arith, length-take max (drop (get_or (range_with_len 0 count) k d * max) s.bytes));
    })

command_bytes : (max low : ℕ) (last : Bool) (block : ℕ) (p : Piece) → max ≤ 255 → low ≤ 31 → block < 256 → IsBytePiece max p → IsByteCommand (store_data_command low last block p)
command_bytes max low last block p most small within is =
    let first : cond {A = ℕ} last 128 0 ≤ 128 = cond_both {A = ℕ} last 128 0 (λ n. n ≤ 128) (λ yes. omega arith) (λ other. omega arith) in
    let p1 : ℕ = cond {A = ℕ} last 128 0 + enc_bits p.enc + low in
    let bits = enc_small p.enc in
    let many : length p.bytes < 256 = omega (arith, is.few, most) in
    byte_cons 0x80 (0xE2 ∷ p1 ∷ block ∷ length p.bytes ∷ p.bytes) (omega arith)
    (byte_cons 0xE2 (p1 ∷ block ∷ length p.bytes ∷ p.bytes) (omega arith)
    (byte_cons p1 (block ∷ length p.bytes ∷ p.bytes) (omega (arith, first, bits, small))
    (byte_cons block (length p.bytes ∷ p.bytes) within (byte_cons (length p.bytes) p.bytes many is.bytes))))

application_commands_bytes : (max low : ℕ) (a : Application) → max ≤ 255 → low ≤ 31 → IsApplication max a → IsByteApplication a → All IsByteCommand (application_commands max low a)
unfolding application_commands store_data_commands
application_commands_bytes max low a most small is bytes =
    let pieces = flat_map (pieces_of max) a.segments in
    let each : All (IsBytePiece max) pieces = all_flat IsByteSegment (IsBytePiece max) (pieces_of max) (λ s one. pieces_bytes max s one) a.segments bytes.segments in
    let few = is.blocks in
    let numbered = all_numbered (IsBytePiece max) 0 256 pieces (omega (arith, few)) each in
    let aid_most = is.aid_most in
    let select : IsByteCommand (select_command a.aid) =
    byte_cons 0x00 (0xA4 ∷ 0x04 ∷ 0x00 ∷ length a.aid ∷ a.aid) (omega arith) (byte_cons 0xA4 (0x04 ∷ 0x00 ∷ length a.aid ∷ a.aid) (omega arith)
    (byte_cons 0x04 (0x00 ∷ length a.aid ∷ a.aid) (omega arith) (byte_cons 0x00 (length a.aid ∷ a.aid) (omega arith) (byte_cons (length a.aid) a.aid (omega (arith, aid_most)) bytes.aid)))) in
    let make : ℕ × Piece → Command = λ e. store_data_command low (e.0 + 1 == length pieces) e.0 e.1 in
    All-cons IsByteCommand (select_command a.aid) (map make (enumerate_from 0 pieces)) select
    (All-map IsByteCommand make (enumerate_from 0 pieces)
    (All-weaker (λ (e : ℕ × Piece). (e.0 < 256) × IsBytePiece max e.1) (λ (e : ℕ × Piece). IsByteCommand (make e))
    (λ e one. command_bytes max low (e.0 + 1 == length pieces) e.0 e.1 most small one.0 one.1) (enumerate_from 0 pieces) numbered))

-- the commands of a plan for rows of bytes
pub plan_bytes : (p : Product) (rows : List Row) → IsPlan (plan_of p rows) → All IsByteRow rows → All IsByteCommand (commands_of (plan_of p rows))
unfolding commands_of
plan_bytes p rows is all =
    let each = applications_bytes rows all in
    all_flat (λ (a : Application). IsApplication p.max a × IsByteApplication a) IsByteCommand (application_commands p.max p.low)
    (λ a both. application_commands_bytes p.max p.low a is.max_most is.low both.0 both.1) (applications_of rows) (λ k d within. (is.each k d within, each k d within))
