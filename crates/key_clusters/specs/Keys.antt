-- The key of a cluster. docs/MODEL.md, "Clusters and keys", tells it in prose.
use Rattle.std.specs.Prelude.{ℕ, List, [], ◌∷◌, ◌++◌, slice_index_or}
use Rattle.sha2.specs.Sha256.{sha256}
use Rattle.mq_base.specs.declared.ids.AttrId.{AttrId}
use Rattle.mq_base.specs.declared.table.Scheme.{Scheme}
use Rattle.mq_base.specs.declared.table.Scheme.TheVariants.{Rnd, Det, Ope}
use Rattle.key_clusters.specs.declared.assigned.Clusters.{Clusters}

-- the number of a scheme
abbrev pub scheme_number : Scheme → ℕ
scheme_number Rnd = 0
scheme_number Det = 1
scheme_number Ope = 2

-- the key of a cluster under a scheme: the SHA-256 of the seed, the cluster and the number of the scheme, a byte each
unfoldable pub key_of : List ℕ → AttrId → Scheme → List ℕ
key_of seed cluster scheme = sha256 (seed ++ cluster.0 ∷ scheme_number scheme ∷ [])

-- the cluster and the scheme of an attribute, at its place
abbrev pub cluster_at : Clusters → ℕ → AttrId
cluster_at clusters a = slice_index_or clusters.cluster a (record { 0 = 0 })

abbrev pub scheme_at : Clusters → ℕ → Scheme
scheme_at clusters a = slice_index_or clusters.scheme a Rnd

-- the key of an attribute: that of its cluster
abbrev pub key_at : List ℕ → Clusters → ℕ → List ℕ
key_at seed clusters a = key_of seed (cluster_at clusters a) (scheme_at clusters a)
