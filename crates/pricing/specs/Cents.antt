-- What a price and a quantity cost.
use Rattle.std.specs.Prelude.{◌≡◌, ℕ, ◌+◌, ◌*◌, ◌/◌, ◌≤◌}

-- The cents of a price in cents per MW and a quantity in tenths of a MW: their product divided by 10, a half rounded up.
unfoldable pub cents_of : ℕ → ℕ → ℕ
cents_of price tenths = (price * tenths + 5) / 10

-- What everything above relies on, so that the rounding can be exchanged in one place.
pub record CentsLaws (cents : ℕ → ℕ → ℕ) : Type 0 where
  -- a higher price never costs less
  pub rises_with_price : (low high tenths : ℕ) → low ≤ high → cents low tenths ≤ cents high tenths
  -- a larger quantity never costs less
  pub rises_with_quantity : (price small large : ℕ) → small ≤ large → cents price small ≤ cents price large
  -- nothing costs nothing
  pub none_at_none : (price : ℕ) → cents price 0 ≡ 0
  -- the cents are at most half a cent above and at most half a cent below the exact tenth of the product
  pub half_above : (price tenths : ℕ) → 10 * cents price tenths ≤ price * tenths + 5
  pub half_below : (price tenths : ℕ) → price * tenths ≤ 10 * cents price tenths + 5
