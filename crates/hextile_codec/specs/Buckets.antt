-- Buckets in which values are counted.
use Rattle.std.specs.Prelude.{ℕ, ◌+◌, ◌*◌, ◌/◌, ◌%◌}

abbrev pub bucket_of : ℕ → ℕ
bucket_of value = (value + value / 32 * 5 + value / 2048 * 11) % 64
