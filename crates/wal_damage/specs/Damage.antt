-- Damage of a WAL: SQLite's database file format, section 4, "The Write-Ahead Log", with the count
-- frames that the `sqlite_wal` of the toolchain writes and SQLite ignores. A *break* is the first
-- header or frame that isn't valid. Recovery ends there.
use Rattle.std.specs.Prelude.{ℕ, zero, suc, ◌+◌, ◌-◌, ◌/◌, ◌==◌, ◌&&◌, ◌||◌, not, nat_le, Bool, false, if◌then◌else◌, List, length, slice_index}
use Rattle.sqlite_wal.specs.Format.{part, be32, checksum, stored_sum, is_big, page_number, commit_size, frame_sum, count_page}
use Rattle.sqlite_wal.specs.PageSize.{size_in_file}
use Rattle.sqlite_wal.specs.Recovery.{frame, header, sum_before}
use Rattle.wal_damage.specs.declared.look.Look.{Look}

-- `a` and `b`, two salts or the two words of a checksum, are equal.
abbrev pub same_pair : ℕ × ℕ → ℕ × ℕ → Bool
same_pair a b = (a.0 == b.0) && (a.1 == b.1)

-- salt-1 and salt-2, which are stored at the offset `at`
abbrev pub salts_at : List ℕ → ℕ → ℕ × ℕ
salts_at bytes at = (be32 bytes at, be32 bytes (at + 4))

-- `word` is the magic number of a WAL, for either byte order.
abbrev pub is_magic : ℕ → Bool
is_magic word = (word == 0x377f_0682) || (word == 0x377f_0683)

-- The header `head` is valid: it starts with the magic number and ends with its checksum.
abbrev pub is_header : List ℕ → Bool
is_header head =
    is_magic (be32 head 0) && same_pair (checksum (is_big head) (0, 0) (part head 0 24)) (stored_sum head 24)

-- The frame is valid: it has the salts `salts` and a page number, and its checksum continues
-- `before`.
abbrev pub is_valid : Bool → ℕ × ℕ → ℕ × ℕ → List ℕ → Bool
is_valid big salts before frame =
    same_pair (salts_at frame 8) salts && not (page_number frame == 0)
    && same_pair (frame_sum big before frame) (stored_sum frame 16)

-- The checksums read words with the highest byte first. Only a valid header can require this.
abbrev pub reads_big : List ℕ → Bool
reads_big log = is_header (header log) && is_big (header log)

-- the salts that frame `i` must have: the salts of the header, or those of the previous frame if
-- the header is damaged
abbrev pub salts_for : ℕ → List ℕ → ℕ → ℕ × ℕ
salts_for page_size log zero = salts_at (header log) 16
salts_for page_size log (suc i) =
    if is_header (header log) then salts_at (header log) 16 else salts_at (frame page_size log i) 8

-- Frame `i` is valid after the bytes before it, even if these are damaged.
abbrev pub follows : ℕ → List ℕ → ℕ → Bool
follows page_size log i =
    is_valid (reads_big log) (salts_for page_size log i) (sum_before page_size log i) (frame page_size log i)

-- The header and the first `i` frames are valid, so no break is before frame `i`.
abbrev pub is_whole_to : ℕ → List ℕ → ℕ → Bool
is_whole_to page_size log zero = is_header (header log)
is_whole_to page_size log (suc i) = is_whole_to page_size log i && follows page_size log i

-- The frame before frame `i` commits.
abbrev pub commits_before : ℕ → List ℕ → ℕ → Bool
commits_before page_size log zero = false
commits_before page_size log (suc i) = not (commit_size (frame page_size log i) == 0)

-- Frame `i` starts a counted commit after a break. The commit was durable, but recovery doesn't
-- reach it.
abbrev pub is_lost : ℕ → List ℕ → ℕ → Bool
is_lost page_size log i =
    not (is_whole_to page_size log i) && commits_before page_size log i && follows page_size log i
    && (page_number (frame page_size log i) == count_page)

-- the number of such commits that start in the first `n` frames
abbrev pub lost_to : ℕ → List ℕ → ℕ → ℕ
lost_to page_size log zero = 0
lost_to page_size log (suc i) = lost_to page_size log i + (if is_lost page_size log i then 1 else 0)

-- Frame `i` is valid and after a break.
abbrev pub is_behind : ℕ → List ℕ → ℕ → Bool
is_behind page_size log i = not (is_whole_to page_size log i) && follows page_size log i

-- The frame before frame `i` is valid, after a break, and commits.
abbrev pub commits_behind : ℕ → List ℕ → ℕ → Bool
commits_behind page_size log zero = false
commits_behind page_size log (suc i) = is_behind page_size log i && not (commit_size (frame page_size log i) == 0)

-- In the first `n` frames, after a break, a valid frame commits and a valid frame continues it.
abbrev pub goes_on_to : ℕ → List ℕ → ℕ → Bool
goes_on_to page_size log zero = false
goes_on_to page_size log (suc i) =
    goes_on_to page_size log i || (is_behind page_size log i && commits_behind page_size log i)

-- One of the first `n` frames has the page number of a count frame, so the toolchain wrote at least
-- a part of the WAL.
abbrev pub has_count_to : ℕ → List ℕ → ℕ → Bool
has_count_to page_size log zero = false
has_count_to page_size log (suc i) =
    has_count_to page_size log i || (page_number (frame page_size log i) == count_page)

-- The break is one of the first `n` frames, and the first byte of its salts is 0. The toolchain
-- clears this byte in front of frames that don't count yet.
abbrev pub is_shut_to : ℕ → List ℕ → ℕ → Bool
is_shut_to page_size log zero = false
is_shut_to page_size log (suc i) =
    if is_whole_to page_size log i && not (follows page_size log i) then slice_index (frame page_size log i) 8 == 0
    else is_shut_to page_size log i

-- the number of complete frames in the WAL
abbrev pub frames_in : ℕ → List ℕ → ℕ
frames_in page_size log = (length log - 32) / (24 + page_size)

-- A checkpoint was interrupted when it restarted the WAL: it clears the first byte before it writes
-- anything else.
abbrev pub is_cleared : List ℕ → Bool
is_cleared head = not (is_header head) && (slice_index head 0 == 0)

-- the page size that the header of the WAL names, or that the database file names if this header is
-- damaged
abbrev pub page_size_of : List ℕ → List ℕ → ℕ
page_size_of db head = if is_header head then be32 head 8 else size_in_file db

-- `size` is between the smallest and the largest page size that SQLite allows.
abbrev pub is_page_size : ℕ → Bool
is_page_size size = nat_le 512 size && nat_le size 65536

-- The frames are examined: no interrupted checkpoint cleared the header, and the page size is in
-- range.
abbrev pub has_frames : List ℕ → List ℕ → Bool
has_frames db log = not (is_cleared (header log)) && is_page_size (page_size_of db (header log))

-- Commits of another program continue after a break that the toolchain didn't make.
abbrev pub is_suspect_to : ℕ → List ℕ → ℕ → Bool
is_suspect_to page_size log n =
    goes_on_to page_size log n && not (has_count_to page_size log n) && not (is_shut_to page_size log n)

-- the result for the first `n` frames
abbrev pub look_to : ℕ → List ℕ → ℕ → Look
look_to page_size log n = record { lost = lost_to page_size log n; is_suspect = is_suspect_to page_size log n }

-- the result if no frame is examined
abbrev pub nothing : Look
nothing = record { lost = 0; is_suspect = false }

-- the result for the database file `db` and the WAL `log`
unfoldable pub look_at : List ℕ → List ℕ → Look
look_at db log =
    let size = page_size_of db (header log) in
    if has_frames db log then look_to size log (frames_in size log) else nothing

-- the number of durable commits that recovery doesn't reach, in addition to the commit that
-- contains the break. If it isn't 0, the WAL is damaged
abbrev pub lost_commits : List ℕ → List ℕ → ℕ
lost_commits db log = (look_at db log).lost

-- A WAL that only another program wrote looks damaged in the same way. This doesn't prove damage,
-- because such a program may commit without a sync.
abbrev pub is_suspect : List ℕ → List ℕ → Bool
is_suspect db log = (look_at db log).is_suspect
