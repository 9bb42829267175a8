-- What a change of a band's bytes asks of the band and of the bytes.
use Rattle.std.specs.Prelude.{◌≡◌, ℕ, ◌≤◌, Bool, true, List}
use Rattle.sg_space.specs.Bands.{IsPiece}
use Rattle.sg_actions.specs.Painting.{IsPaint}
use Rattle.sg_actions.specs.Taken.{is_there}

-- THE BYTES MAY BE CHANGED: the band is taken, the open action hasn't freed it, they are a piece of it, and a record has room for its number
pub record MayWrite (taken unfreed : List Bool) (band at count : ℕ) : Type 0 where
  pub there : is_there taken unfreed band ≡ true
  pub piece : IsPiece at count
  pub few : band ≤ 65535

-- and by a range operation, where a record has room for its argument, and the positions end where a blob's may
pub record MayPaint (taken unfreed : List Bool) (band at count position : ℕ) (arg : List ℕ) : Type 0 where
  pub writes : MayWrite taken unfreed band at count
  pub paint : IsPaint position count arg
