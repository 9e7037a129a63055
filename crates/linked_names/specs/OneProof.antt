-- That a pool's names are as sources give them has one proof at most, so that a value may keep it
-- as a fact.
use Rattle.std.proofs.Common.{◌≡◌, ◌≢◌, ◌<◌, ◌∙◌, ℕ, true, false, length, map, sym}
use Rattle.std.proofs.Props.{props}
use Rattle.std.specs.Char.{to_ascii_lowercase}
use mathlib.Core.HLevel.{is_prop→PathP}
use Rattle.reflect_tables.specs.Types.{PoolType, FieldType, KindType, MessageType, type_at, type_of_field}
use Rattle.reflect_tables.specs.Types as types
use Rattle.reflect_tables.specs.declared.stored.StoredEntry.{StoredEntry}
use Rattle.text_model.specs.Identifiers.{is_identifier}
use Rattle.text_view.specs.SourceNames.{HaveOwnNames, IsGroupField, HasPartNames, HasSourceNames}
use Rattle.linked_names.specs.SourcePools.{IsScoped, IsSourcePool}

kind_set : IsSet KindType
kind_set = hlevel props

-- a kind is of one message at most
one_place : (k : KindType) (i j : ℕ) → k ≡ types.message i → k ≡ types.message j → i ≡ j
one_place k i j e f = cc (sym e ∙ f)

-- what a group's field has at a place
abbrev IsNamedAfter : PoolType → ℕ → FieldType → ℕ → Type 0
IsNamedAfter pool i f place = (f.kind ≡ types.message place)
    × (is_identifier (type_at pool place).name ≡ true)
    × (f.name ≡ map to_ascii_lowercase (type_at pool place).name)
    × ((k : ℕ) → k < length (type_at pool i).fields → (type_of_field pool i k).group ≡ false
    → (type_of_field pool i k).name ≢ (type_at pool place).name)

named_prop : (pool : PoolType) (i : ℕ) (f : FieldType) (place : ℕ)
    → IsProp (IsNamedAfter pool i f place)
named_prop pool i f place = hlevel (kind_set, props)

abbrev split : {pool : PoolType} {i : ℕ} {f : FieldType} → (g : IsGroupField pool i f)
    → IsNamedAfter pool i f g.place
split g = (g.kind, g.spelled, g.lower, g.own)

group_prop : (pool : PoolType) (i : ℕ) (f : FieldType) → IsProp (IsGroupField pool i f)
group_prop pool i f g h =
    let place = one_place f.kind g.place h.place g.kind h.kind in
    λ j. (let rest = is_prop→PathP (λ k. IsNamedAfter pool i f (place k))
    (λ k. named_prop pool i f (place k)) (split g) (split h) j in
    record { place = place j; kind = rest.0; spelled = rest.1; lower = rest.2; own = rest.3 })

distinct_prop : (pool : PoolType) → IsProp (HaveOwnNames pool)
distinct_prop pool = hlevel props

parts_prop : (pool : PoolType) (i : ℕ) (e : StoredEntry) → IsProp (HasPartNames pool i e)
parts_prop pool i e = hlevel props

names_prop : (pool : PoolType) → IsProp (HasSourceNames pool)
names_prop pool = hlevel (distinct_prop, group_prop, parts_prop, props)

scoped_prop : (pool : PoolType) (t : MessageType) → IsProp (IsScoped pool t)
scoped_prop pool t = hlevel props

pub IsSourcePool-prop : (pool : PoolType) → IsProp (IsSourcePool pool)
IsSourcePool-prop pool = hlevel (scoped_prop, names_prop, props)
