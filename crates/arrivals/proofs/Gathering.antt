-- How a batch of records is read.
use Rattle.std.proofs.Common.{◌≡◌, ℕ, ◌+◌, ◌≤◌, List, [], ◌∷◌, ◌++◌, Option, Some, subst, arith}
use Rattle.std.specs.Prelude.{Ok}
use Rattle.std.proofs.lemmas.List.Sums.{sum_by-append, sum_by-cons}
use Rattle.captures.specs.declared.record.Record.{Record}
use Rattle.captures.specs.declared.record.Record.TheVariants.{Piece, End, Tier}
use Rattle.captures.specs.declared.progress.Progress.{Progress}
use Rattle.captures.specs.declared.version.Version.{Version}
use Rattle.captures.specs.Reference.{IsRecord, max_piece_bytes}
use Rattle.captures.specs.Captures.{size_of, sizes_of}
use Rattle.captures.specs.Readers.{ReaderAfter, Gave}
use Rattle.arrivals.specs.Batches.{as_piece, piece_count}

-- what the reader's answer says
pub gave_some : (v : Version) (text now : Option (List ℕ)) (start : ℕ) (records : List Record) (p : Progress) (x : Option Record) (r : Record) → x ≡ Some r
    → Gave v text start records (Ok x) p now → ReaderAfter v text start (records ++ r ∷ []) p now
gave_some v text now start records p x r is h = subst (λ (o : Option Record). Gave v text start records (Ok o) p now) is h

-- one more record: how many pieces there are then, and how many bytes of them
pub count_push : (rs : List Record) (r : Record) → piece_count (rs ++ r ∷ []) ≡ piece_count rs + as_piece r
count_push rs r = omega (arith, sum_by-append as_piece rs (r ∷ []), sum_by-cons as_piece r [])

pub sizes_push : (rs : List Record) (r : Record) → sizes_of (rs ++ r ∷ []) ≡ sizes_of rs + size_of r
sizes_push rs r = omega (arith, sum_by-append size_of rs (r ∷ []), sum_by-cons size_of r [])

pub one_piece : (r : Record) → as_piece r ≤ 1
one_piece (Piece tick conn bytes) = omega arith
one_piece (End tick conn) = omega arith
one_piece (Tier conn tier) = omega arith

pub one_size : (v : Version) (r : Record) → IsRecord v r → size_of r ≤ max_piece_bytes
one_size v (Piece tick conn bytes) h = h.3
one_size v (End tick conn) h = omega arith
one_size v (Tier conn tier) h = omega arith
