-- The files of a command, as a function of what a file is for and of its name.
use Rattle.std.specs.Prelude.{◌≡◌, ℕ, ◌+◌, ◌==◌, ◌&&◌, Bool, List, bytes_eq, Option, Some, None, if◌then◌else◌}
use Rattle.outside_io.specs.Outside.{Files, content_of}
use Rattle.command_input.specs.declared.fault.FileRole.{FileRole}
use Rattle.command_input.specs.declared.fault.FileRole.TheVariants.{Policy, Prices, Query, Table, Cert}

-- the bytes of the file with this role and this name, where there is one
abbrev pub Lookup : Type 0
Lookup = FileRole → List ℕ → Option (List ℕ)

-- a number for each role, and for each table one of its own
abbrev pub role_number : FileRole → ℕ
role_number Policy = 0
role_number Prices = 1
role_number Query = 2
role_number Cert = 3
role_number (Table t) = t.0 + 4

-- whether two roles are one
abbrev pub same_role : FileRole → FileRole → Bool
same_role file other = role_number file == role_number other

-- the lookup gives what the shelf holds, for each role, where the shelf tells it
abbrev pub Agrees : Option Files → Lookup → Type 0
Agrees None lookup = Unit {0}
Agrees (Some files) lookup = (file : FileRole) (name : List ℕ) → lookup file name ≡ content_of files name

-- the same files without the one of this name in this role
abbrev pub hidden : FileRole → List ℕ → Lookup → Lookup
hidden file name lookup other asked = if same_role file other && bytes_eq name asked then None else lookup other asked
