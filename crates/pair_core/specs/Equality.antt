-- Outcomes and settings that are the same: their bytes compared as lists, and of a type that keeps a bound what
-- it holds.
use Rattle.std.specs.Prelude.{◌≡◌}
use Rattle.pair_core.specs.declared.outcome.Outcome.{Outcome}
use Rattle.pair_core.specs.declared.outcome.Outcome.TheVariants as outcome
use Rattle.pair_core.specs.declared.setting.Setting.{Setting}
use Rattle.pair_core.specs.declared.setting.Setting.TheVariants as setting

abbrev pub SameOutcome : Outcome → Outcome → Type 0
SameOutcome (outcome.Read v) (outcome.Read w) = v.items ≡ w.items
SameOutcome p q = p ≡ q

abbrev pub SameSetting : Setting → Setting → Type 0
SameSetting (setting.Timeout a) (setting.Timeout b) = a.duration ≡ b.duration
SameSetting (setting.AckDelay a) (setting.AckDelay b) = a.duration ≡ b.duration
SameSetting (setting.KeepAlive a) (setting.KeepAlive b) = a.duration ≡ b.duration
SameSetting (setting.HopLimit a) (setting.HopLimit b) = a.hop_limit ≡ b.hop_limit
SameSetting p q = p ≡ q
