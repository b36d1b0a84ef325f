-- What is answered is believed.
use Rattle.std.specs.Prelude.{ℕ, ◌≡◌, ◌+◌, ◌⊎◌, List, Option, Some}
use Rattle.host_cookies.specs.Classes.{class_of}
use Rattle.host_cookies.specs.Numbers.{number_at, recognised}
use Rattle.host_cookies.specs.declared.call.Call.{Call}

abbrev pub AnswersAreRecognised : Type 0
AnswersAreRecognised =
    (key : List ℕ) (c : Call) (mss : Option ℕ) (told sent heard : ℕ) → (heard ≡ sent) ⊎ (heard ≡ sent + 1)
    → recognised key c heard told (number_at key c sent (class_of mss) told) ≡ Some (class_of mss)
