-- Document 01, "Numbers of the card": the limits as constants, and what is out of range.
-- Assumes nothing.
use Rattle.std.specs.Prelude.{ℕ, Bool, ◌&&◌, leb}

-- tick times go from 0 to this
abbrev pub largest_time : ℕ
largest_time = 1_000_000_000_000

-- all 24 bits of an identifier set
abbrev pub largest_tunnel : ℕ
largest_tunnel = 16_777_215

abbrev pub largest_period : ℕ
largest_period = 1_000_000

-- kinds of VCPU: 0 sporadic, 1 deferrable, 2 polling
abbrev pub largest_kind : ℕ
largest_kind = 2

-- VCPUs on the card
abbrev pub most_vcpus : ℕ
most_vcpus = 32

-- pending returns of one VCPU
abbrev pub most_pending : ℕ
most_pending = 8

-- period 1 to 1,000,000. The priority is one byte: its range is the type's (docs/DECISIONS.md).
abbrev pub in_range : ℕ → Bool
in_range period = leb 1 period && leb period largest_period
