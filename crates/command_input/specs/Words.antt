-- The words of the command line. docs/FORMATS.md, "Words", tells their forms.
use Rattle.std.specs.Prelude.{ℕ, ◌==◌, ◌&&◌, List, [], ◌∷◌, length, nat_le, bytes_eq, codes, Option, Some, None, option_map, option_and_then, if◌then◌else◌}
use Rattle.std.specs.List.{list_all}
use Rattle.std.specs.Result.{result_ok}
use Rattle.hex.specs.Hex.{decode_sized}

-- a command `run`: the names of its files, its seed of 32 bytes, and the number of its schedule
pub record RunCommand : Type 0 where
  pub policy : List ℕ
  pub prices : List ℕ
  pub query : List ℕ
  pub seed : List ℕ
  pub schedule : ℕ

-- a command of the program
pub data Command : Type 0 where
  run : RunCommand → Command

-- a seed: 64 hexadecimal digits, in either case
abbrev pub seed_of : List ℕ → Option (List ℕ)
seed_of word = result_ok (decode_sized word 32)

-- a schedule: one to twenty decimal digits, whose value must be 0 for now
abbrev pub schedule_of : List ℕ → Option ℕ
schedule_of word =
    if nat_le 1 (length word) && nat_le (length word) 20 && list_all (λ digit. digit == 48) word then Some 0 else None

-- `run` with its five words
abbrev pub run_of : List ℕ → List ℕ → List ℕ → List ℕ → List ℕ → Option Command
run_of policy prices query seed schedule =
    option_and_then (λ bytes.
    option_map (λ number. run (record { policy = policy; prices = prices; query = query; seed = bytes; schedule = number }))
    (schedule_of schedule))
    (seed_of seed)

-- the command that words stand for, where they have the form of one
abbrev pub command_of : List (List ℕ) → Option Command
command_of (name ∷ policy ∷ prices ∷ query ∷ seed ∷ schedule ∷ []) =
    if bytes_eq name (codes "run") then run_of policy prices query seed schedule else None
command_of _ = None
