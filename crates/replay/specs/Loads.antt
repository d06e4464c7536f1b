-- When a floor pays.
use Rattle.std.specs.Prelude.{ℕ, ◌+◌, ◌-◌, ◌*◌, ◌^◌, Bool, false, ◌||◌, List, length, sum_by, min, max, nat_le}
use Rattle.std.specs.Prelude.{if◌then◌else◌}
use Rattle.http_requests.specs.declared.messages.Meaning.{Meaning}
use Rattle.http_requests.specs.declared.messages.Meaning.TheVariants.{Request, Bad}
use Rattle.replay.specs.declared.load.Load.{Load}

-- how many bytes the targets of messages have
abbrev pub target_len : Meaning → ℕ
target_len (Request method target version closing since) = length target
target_len (Bad fault) = 0

abbrev pub targets_len : List Meaning → ℕ
targets_len messages = sum_by target_len messages

-- at most 2^64 - 1 of them count
abbrev pub counted : ℕ → ℕ
counted n = min (2 ^ 64 - 1) n

-- so many pieces go through floors at a time
abbrev pub part_of : ℕ → ℕ
part_of pieces = min 4096 (max 1 pieces)

-- so much work in so many pieces would be as much as pays in a part of a batch of such pieces
abbrev pub pays_in : (pays batch pieces work : ℕ) → Bool
pays_in pays batch pieces work = nat_le (pays * part_of pieces) (work * part_of batch)

abbrev pub no_load : Load
no_load = record { pays = false; targets = 0; work = 0; pieces = 0 }

-- it was judged: a floor pays from a MiB of targets, or from 64 MiB of work on replies
abbrev pub judged : ℕ → ℕ → Load → Load
judged batch pieces load = record {
  pays = pays_in 1048576 batch pieces load.targets || pays_in 67108864 batch pieces load.work;
  targets = 0;
  work = 0;
  pieces = 0;
}

-- one more piece was answered without a floor; after 256 it is judged
abbrev pub with_piece : ℕ → List Meaning → Load → Load
with_piece batch messages load =
    let more : Load = record {
      pays = load.pays;
      targets = counted (load.targets + targets_len messages);
      work = load.work;
      pieces = counted (load.pieces + 1);
    } in
    if nat_le 256 more.pieces then judged batch more.pieces more else more
