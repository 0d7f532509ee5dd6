-- What each subject of an accepted policy may see by its file, and where its tables are stored. docs/FORMATS.md, "Policy file", and
-- docs/MODEL.md, "Grants".
use Rattle.std.specs.Prelude.{◌≡◌, ℕ, List, Ok, map, replicate, slice_get}
use Rattle.std.specs.Option.{option_map_or}
use Rattle.mq_base.specs.declared.schema.TableInfo.{TableInfo}
use Rattle.mq_base.specs.declared.table.Scheme.TheVariants as scheme
use Rattle.toml_tree.specs.Outcome.{lists_outcome}
use Rattle.policy_base.specs.Accepted.{plain_of, sealed_of}
use Rattle.policy_base.specs.declared.policy.Policy.{Policy}
use Rattle.policy_reader.specs.declared.raw.RawPolicy.{RawPolicy}
use Rattle.policy_reader.specs.Shape.{policy_as}
use Rattle.policy_reader.specs.Grants.{all_plain, all_sealed}

-- what each subject may see is what the file's lists grant to its name, over all tables; and nothing where the id is no subject's
pub record IsGranted (lists : RawPolicy) (policy : Policy) : Type 0 where
  pub plain : (s : ℕ) → plain_of policy s ≡ option_map_or (all_plain lists.tables lists.rules) (slice_get policy.subjects s) 0
  pub sealed : (s : ℕ) → sealed_of policy s ≡ option_map_or (all_sealed lists.tables lists.rules) (slice_get policy.subjects s) 0

-- the policy's sets are the grants of the lists that the file gives
pub record SeesAsFiled (bytes : List ℕ) (policy : Policy) : Type 0 where
  pub lists : RawPolicy
  pub given : lists_outcome policy_as bytes ≡ Ok lists
  pub granted : IsGranted lists policy

-- what a file of version 1 says of storage: each table is stored by its owner, no attribute is sealed at rest, and each
-- may be sealed under any scheme
pub record IsStoredByOwners (policy : Policy) : Type 0 where
  pub stores : policy.store ≡ map (λ (info : TableInfo). info.owner) policy.schema.tables
  pub rest : policy.rest.0 ≡ 0
  pub ceilings : policy.ceiling ≡ replicate 64 scheme.Ope
