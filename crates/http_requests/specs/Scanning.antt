-- What stands at the start of a text, and where a block ends, by the last bytes before that place.
use Rattle.std.specs.Prelude.{◌≡◌, ◌↔◌, ℕ, ◌+◌, ◌<◌, ◌≤◌, List, length, drop, slice_index, ◌-◌, ◌==◌, ◌&&◌, ◌||◌}
use Rattle.std.specs.Prelude.{Bool, nat_le}
use Rattle.std.specs.Int.{bit_at}
use Rattle.http_requests.specs.Reference.{line_feed, max_block_bytes, EndsAt, NoBlock, IsBlock, blank_len}
use Rattle.http_requests.specs.Reference.{carriage_return}
use Rattle.http_requests.specs.declared.scanning.Found.{Found}
use Rattle.http_requests.specs.declared.scanning.Found.TheVariants.{Wait, Over, Whole}

-- no block ends in the first n bytes
abbrev pub NoEndIn : ℕ → List ℕ → Type 0
NoEndIn n s = (e : ℕ) → e ≤ n → EndsAt s e → ⊥

-- the bits of the marks of the 64 bytes from place k on are the line feeds
abbrev pub MarksFeeds : List ℕ → ℕ → ℕ → Type 0
MarksFeeds s k marks = (i : ℕ) → i < 64 → (bit_at marks i ≡ 1) ↔ (slice_index s (k + i) ≡ line_feed)

-- what was found at the start of a text
abbrev pub IsFound : List ℕ → Found → Type 0
IsFound r (Wait q) = (q ≡ blank_len r) × (q ≤ length r) × NoBlock (drop q r) × (length r < q + max_block_bytes)
IsFound r (Over k) = (k ≡ blank_len r + max_block_bytes) × NoBlock (drop (blank_len r) r) × (k ≤ length r)
IsFound r (Whole q len) = (q ≡ blank_len r) × (q + len ≤ length r) × IsBlock (drop q r) len

-- an LF LF or LF CR LF that lies wholly in the text ends before the place e
unfoldable pub ends_at : List ℕ → ℕ → Bool
ends_at s e = nat_le 2 e && (nat_le e (length s) && (slice_index s (e - 1) == line_feed
    && (slice_index s (e - 2) == line_feed
    || (nat_le 3 e && (slice_index s (e - 2) == carriage_return && slice_index s (e - 3) == line_feed)))))

-- a block is the shortest part of the text, from its first byte on, that ends so, and within the limit
pub record IsShortestBlock (s : List ℕ) (e : ℕ) : Type 0 where
  pub ends : EndsAt s e
  pub shortest : (k : ℕ) → EndsAt s k → e ≤ k
  pub limit : e ≤ max_block_bytes
