-- What the functions with raw pointers are proved by: a struct whose fields are plain, and which owns memory.
--     owning       the struct, of its name, its values and their code, its fields, and what it owns
--     ended_by     a contract's signature, of n lifetimes, with what is kept of each parameter
use Prim.Native.Nat.{ℕ}
use mathlib.Core.List.{List, []}
use base.Stored.{Coded}
use base.Fml.{Lft, Fml}
use mir.Syntax.{Sym}
use denote.Exit.{Kept, Exit}
use denote.Signature.{Slot}
use denote.Struct.Field.{Field}
use denote.Struct.Owning.{Owning}
use denote.Struct.Values.{Values}
use denote.Triple.Clauses.{Ended}
use denote.Triple.End.{Kepts}
pub use mathlib.Core.Path.{refl}
unfoldable pub use contract.Running.{tables, tables_of}
pub use denote.Exit.{no, yes}
pub use denote.Signature.{static_lft}
pub use denote.Triple.Spec.{triple_of}
pub use denote.Triple.Table.{entered}
pub use Rattle.std.specs.Prelude.{None, Some, true}

abbrev pub owning : (name : Sym) (D : Type 0) → Coded D → (Kept → Exit D) → (D → ℕ → ℕ → Lft → Fml) → (parts : List Field) → (D → Values parts) → (D → Fml) → Owning
owning name D coded exit shared parts as_values heap = record { name = name; args = []; types = []; parts = parts; D = D; as_values = as_values; coded = coded; heap = heap; exit = exit; shr_at = shared }

abbrev pub ended_by : (n : ℕ) (params : List (Slot n)) → Slot n → Kepts params → Ended
ended_by n params result kept = record { signature = record { lifetimes = n; outlives = []; params = params; result = result }; kept = kept }
