-- What a sharing rule takes, the laws of its parts, and what a split answers and leaves.
use Rattle.std.specs.Prelude.{◌≡◌, ℕ, ◌<◌, ◌≤◌, List, length, ℤ, pos, ◌+ℤ◌, ◌*ℤ◌, ◌≤ℤ◌, ◌<ℤ◌, Ok, Err, Result, slice_index_or, unsigned_abs}
use Rattle.integers.specs.Totals.{total_of, size_of}
use Rattle.refusals.specs.declared.Refusal.{Refusal}
use Rattle.refusals.specs.declared.Refusal.TheVariants.{OutsideSharingRange}

-- The most weights that a rule takes.
abbrev pub most_members : ℕ
most_members = 64

-- The largest total that a rule takes, either way.
abbrev pub most_total : ℕ
most_total = 30000000000

-- The most that the sizes of the weights without sign add up to.
abbrev pub most_sizes : ℕ
most_sizes = 1000000

-- The range of every rule.
pub record InRange (total : ℤ) (weights : List ℤ) : Type 0 where
  -- there are weights, and not too many
  pub some_members : 1 ≤ length weights
  pub few_members : length weights ≤ most_members
  -- the total is not too large, either way
  pub small_total : unsigned_abs total ≤ most_total
  -- nor are the weights
  pub small_sizes : size_of weights ≤ most_sizes
  -- the weight sum is at least 1
  pub positive : pos 1 ≤ℤ total_of weights

-- What stands at place k of the parts or of the weights.
abbrev pub nth : List ℤ → ℕ → ℤ
nth numbers k = slice_index_or numbers k (pos 0)

-- The laws of every rule's parts.
pub record Fair (total : ℤ) (weights parts : List ℤ) : Type 0 where
  -- each member has one part
  pub one_each : length parts ≡ length weights
  -- the parts add up to the total
  pub add_up : total_of parts ≡ total
  -- each part times the weight sum is less than the weight sum away from the total times that part's weight, above and below
  pub not_above : (k : ℕ) → k < length weights → (nth parts k *ℤ total_of weights) <ℤ (total *ℤ nth weights k +ℤ total_of weights)
  pub not_below : (k : ℕ) → k < length weights → (total *ℤ nth weights k) <ℤ (nth parts k *ℤ total_of weights +ℤ total_of weights)
  -- a weight of 0 gets 0
  pub none_for_none : (k : ℕ) → k < length weights → nth weights k ≡ pos 0 → nth parts k ≡ pos 0

-- A split takes a total and weights in range, and as many parts as weights.
pub record Takes (total : ℤ) (weights : List ℤ) (part_count : ℕ) : Type 0 where
  pub range : InRange total weights
  pub as_many : part_count ≡ length weights

-- How the range check answers: the weight sum where a rule takes them, else a refusal.
abbrev pub Checks : ℤ → List ℤ → ℕ → Result ℤ Refusal → Type 0
Checks total weights part_count (Ok weight_sum) = Takes total weights part_count × (weight_sum ≡ total_of weights)
Checks total weights part_count (Err refusal) = (Takes total weights part_count → ⊥) × (refusal ≡ OutsideSharingRange)

-- How a split answers, and what it makes of the caller's parts: the rule's parts where it takes them; else they stay as they were.
abbrev pub Splits : (ℤ → List ℤ → List ℤ) → ℤ → List ℤ → List ℤ → Result (Unit {0}) Refusal → List ℤ → Type 0
Splits shares total weights before (Ok _) after = Takes total weights (length before) × (after ≡ shares total weights)
Splits shares total weights before (Err refusal) after = (Takes total weights (length before) → ⊥) × (refusal ≡ OutsideSharingRange) × (after ≡ before)
