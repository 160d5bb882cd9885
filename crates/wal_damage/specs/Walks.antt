-- The state of the scan after the frames that were read.
use Rattle.std.specs.Prelude.{ℕ, ◌+◌, ◌==◌, ◌&&◌, ◌||◌, not, false, if◌then◌else◌, List, slice_index}
use Rattle.sqlite_wal.specs.Format.{count_page, commit_size, is_big, page_number, stored_sum}
use Rattle.sqlite_wal.specs.Recovery.{frame, header, sum_before}
use Rattle.wal_damage.specs.Damage.{is_header, is_valid, is_whole_to, commits_before, commits_behind, goes_on_to, has_count_to, is_shut_to, lost_to, reads_big, salts_at, salts_for}
use Rattle.wal_damage.specs.declared.look.Look.{Look}
use Rattle.wal_damage.specs.declared.walk.Walk.{Walk}

-- the state before the first frame, with the header `head`
abbrev pub begun : List ℕ → Walk
begun head = record {
  has_header = is_header head;
  is_big = is_header head && is_big head;
  salts = salts_at head 16;
  sum = stored_sum head 24;
  commits = false;
  is_whole = is_header head;
  lost = 0;
  commits_behind = false;
  goes_on = false;
  has_count = false;
  is_shut = false;
}

-- the state after one more frame
abbrev pub advanced : Walk → List ℕ → Walk
advanced walk frame =
    let valid = is_valid walk.is_big walk.salts walk.sum frame in
    let behind = not walk.is_whole && valid in
    record {
      has_header = walk.has_header;
      is_big = walk.is_big;
      salts = if walk.has_header then walk.salts else salts_at frame 8;
      sum = stored_sum frame 16;
      commits = not (commit_size frame == 0);
      is_whole = walk.is_whole && valid;
      lost = walk.lost + (if not walk.is_whole && walk.commits && valid && (page_number frame == count_page) then 1 else 0);
      commits_behind = behind && not (commit_size frame == 0);
      goes_on = walk.goes_on || (behind && walk.commits_behind);
      has_count = walk.has_count || (page_number frame == count_page);
      is_shut = if walk.is_whole && not valid then slice_index frame 8 == 0 else walk.is_shut;
    }

-- the state after the first `i` frames of a WAL
abbrev pub walk_to : ℕ → List ℕ → ℕ → Walk
walk_to page_size log i = record {
  has_header = is_header (header log);
  is_big = reads_big log;
  salts = salts_for page_size log i;
  sum = sum_before page_size log i;
  commits = commits_before page_size log i;
  is_whole = is_whole_to page_size log i;
  lost = lost_to page_size log i;
  commits_behind = commits_behind page_size log i;
  goes_on = goes_on_to page_size log i;
  has_count = has_count_to page_size log i;
  is_shut = is_shut_to page_size log i;
}

-- the result for the frames that were read
abbrev pub shown : Walk → Look
shown walk = record { lost = walk.lost; is_suspect = walk.goes_on && not walk.has_count && not walk.is_shut }
