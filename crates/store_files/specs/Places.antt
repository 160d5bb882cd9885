-- Paths, and the places that the file system refuses to examine or open (this project's profile).
use Rattle.std.specs.Prelude.{◌≡◌, ◌≢◌, ◌==◌, ◌||◌, ◌<◌, ℕ, Bool, List, codes, length, if◌then◌else◌, bytes_eq, nat_eq, slice_index, slice_range, MatchOption, Option, Some, None}
use Rattle.std.specs.List.{starts_with}
use Rattle.std.specs.declared.io.ErrorKind.{ErrorKind}
use Rattle.std.specs.declared.io.ErrorKind.TheVariants as kind
use Rattle.store_files.specs.declared.place.Place.{Place}
use Rattle.store_files.specs.declared.place.Place.TheVariants.{NoRight, Unclear}

-- `path` is a URI filename (SQLite's documentation, "Uniform Resource Identifiers", section 2).
abbrev pub is_uri : List ℕ → Bool
is_uri path = starts_with nat_eq path (codes "file:")

-- SQLite doesn't take `path` for the path of a file.
abbrev pub names_no_file : List ℕ → Bool
names_no_file path = bytes_eq path (codes ":memory:") || is_uri path

-- the place of an object that the file system refuses to examine or open
abbrev pub place_refused : ErrorKind → Place
place_refused kind.PermissionDenied = NoRight
place_refused kind.ReadOnlyFilesystem = NoRight
place_refused _ = Unclear

-- `at` is the index of the last slash (47) of `path`, or `None` if `path` has no slash.
abbrev pub IsLastSlash : List ℕ → Option ℕ → Type 0
IsLastSlash path at =
    MatchOption at ((i : ℕ) → i < length path → slice_index path i ≢ 47)
    (λ k. (k < length path) × (slice_index path k ≡ 47) × ((i : ℕ) → k < i → i < length path → slice_index path i ≢ 47))

-- the folder of a path with its last slash at this index (POSIX.1-2017, `dirname`)
abbrev pub folder_at : List ℕ → Option ℕ → List ℕ
folder_at path None = codes "."
folder_at path (Some at) = if at == 0 then codes "/" else slice_range path 0 at

-- `folder` is the path of the folder with the object at `path`.
abbrev pub IsFolderOf : List ℕ → List ℕ → Type 0
IsFolderOf path folder = (at : Option ℕ) × IsLastSlash path at × (folder ≡ folder_at path at)
