-- Text put at the end of a text. Assumes nothing: this is a definition.
use Rattle.std.specs.Prelude.{◌≡◌, ◌<◌, ◌+◌, ℕ, List, ◌++◌, length, Result, OnOk, OnErr}
use Rattle.arrayvec.specs.ArrayString.{ArrayString, array_string_len}
use Rattle.arrayvec.specs.declared.errors.CapacityError.{CapacityError}
use Rattle.listset.specs.declared.TheConstants.{TEXT}

-- t was put at the end of a text: or it was not, and then the text had no room for it
pub record Puts (old : ArrayString) (t : List ℕ) (new : ArrayString) (r : Result Unit (CapacityError Unit)) : Type 0 where
  pub bytes : OnOk r (new.bytes ≡ old.bytes ++ t)
  pub full : OnErr r (TEXT < array_string_len old + length t)
