-- In the records of a pool whose options were settled stands what the options of an entity come to.
use Rattle.std.proofs.Common.{◌≡◌, ◌⊎◌, ◌≤◌, ◌<◌, ◌∙◌, inl, inr, ℕ, List, [], ◌∷◌, map, length, Option, Some, None, slice_get, ap, refl, sym, subst, arith, Contains}
use Rattle.std.proofs.lemmas.List.{length-map}
use Rattle.std.proofs.lemmas.List.Elements.{All-contains, All-from_recursion}
use Rattle.std.specs.List.{AllZip}
use Rattle.descriptor_records.specs.Content.{file_view, option_view, options_view}
use Rattle.descriptor_records.specs.declared.file.FileDescriptorProto.{FileDescriptorProto}
use Rattle.descriptor_records.specs.declared.options.Options.{Options}
use Rattle.linked_view.proofs.Places.{get_less}
use Rattle.option_parts.specs.OptionTypes.{CanRead}
use Rattle.option_setter.specs.declared.option_setter.NameScope.{NameScope}
use Rattle.plain_records.specs.PlainRecords.{ArePlainFiles}
use Rattle.plain_records.specs.SourceOptions.{AreGiven}
use Rattle.reflect_build.specs.Accepted.{FaultlessFiles}
use Rattle.reflect_options.specs.Entities.{Entity, file_entities}
use Rattle.reflect_options.specs.Settling.{IsScopeOf, SettlesPool}
use Rattle.reflect_tables.specs.Types.{PoolType}
use Rattle.reflect_tables.specs.Views.{record_file}
use Rattle.schema_view.proofs.Lists.{contains_cases, contains_here, contains_none, contains_there}
use Rattle.settled_records.specs.Becoming.{Becomes, OptionsBecome}
use Rattle.settled_records.proofs.Becomes.{file_becomes}
use Rattle.settled_records.proofs.OfEntities.{Meets}
use Rattle.settled_records.proofs.PlainOptions.{said}
use Rattle.settled_view.specs.BuiltBut.{ChangesOptions}
use Rattle.settled_view.proofs.Transfer.{pool_before}
use Rattle.types_view.specs.Pools.{IsPool}
use Rattle.schema_laws.specs.InBraces.{ComeTo, StandAt}
use Rattle.schema_laws.proofs.Said.{batch_says, entities_say}

-- the one at the same place of another list
beside : {A B : Type 0} (R : A → B → Type 0) (xs : List A) (ys : List B) (x : A) → AllZip R xs ys → Contains xs x → (y : B) × Contains ys y × R x y
beside R [] ys x all at = absurd (contains_none x at)
beside R (z ∷ xs) [] x all at = absurd all
beside {A} {B} R (z ∷ xs) (y ∷ ys) x all at = by (contains_cases z xs x at) (λ there. beside R xs ys x all.1 there) where
  by : (z ≡ x) ⊎ Contains xs x → (Contains xs x → (v : B) × Contains ys v × R x v) → (v : B) × Contains (y ∷ ys) v × R x v
  by (inl same) rest = (y, contains_here y ys, subst (λ (w : A). R w y) same all.0)
  by (inr there) rest = let r = rest there in (r.0, contains_there y ys r.0 r.1, r.2)

-- so it is of files of sources that are linked and settled
pub stored_there : (old linked new : PoolType) (files : List FileDescriptorProto) → FaultlessFiles old files linked → SettlesPool linked (length old.files) new → ChangesOptions linked new
    → IsPool new → ArePlainFiles AreGiven (map file_view files) → (i : ℕ) (f : FileDescriptorProto) (c : Entity) (o : Options) → length old.files ≤ i → slice_get linked.records i ≡ Some f
    → Contains (file_entities i f) c → c.options ≡ Some o → ((options_view o).uninterpreted_option ≡ [] → ⊥)
    → (n : NameScope) × (settled : Options) × IsScopeOf linked c n × ComeTo new n c.scope o settled × StandAt new i c.path settled
stored_there old linked new files faultless settles changes whole given i f c o far found at there some =
    by one.0.options refl (subst (λ (x : Option Options). OptionsBecome linked c x one.0.options) there one.2.options)
  where
    near : i < length linked.files
    near =
        let within = get_less linked.records i f found in
        let many : length linked.files ≡ length linked.records = ap length (pool_before linked new changes whole).recorded.headers ∙ length-map linked.records record_file in
        omega (arith, within, many)

    record_is : (g : FileDescriptorProto) × (slice_get new.records i ≡ Some g) × AllZip (Becomes linked) (file_entities i f) (file_entities i g)
    record_is = file_becomes linked new (length old.files) i f settles far near found

    one : (d : Entity) × Contains (file_entities i record_is.0) d × Becomes linked c d
    one = beside (Becomes linked) (file_entities i f) (file_entities i record_is.0) c record_is.2 at

    as_given : AreGiven c.scope (options_view o)
    as_given =
        let all = entities_say AreGiven i f (batch_says AreGiven old linked files faultless given i f found far) in
        All-contains (Meets (λ file. said AreGiven)) (file_entities i f) c (All-from_recursion (Meets (λ file. said AreGiven)) (file_entities i f) all) at o there

    by : (y : Option Options) → one.0.options ≡ y → OptionsBecome linked c (Some o) y
        → (n : NameScope) × (settled : Options) × IsScopeOf linked c n × ComeTo new n c.scope o settled × StandAt new i c.path settled
    by None is none = absurd none
    by (Some settled) is (n, scope, inl (paths, put)) = (
      n,
      settled,
      scope,
      record {
        given = as_given;
        readable = subst (λ p. CanRead p c.scope) (sym scope.pool) (settles.readable c.scope);
        paths = paths;
        settles = put;
        changes = subst (λ p. ChangesOptions p new) (sym scope.pool) changes;
      },
      (record_is.0, one.0, record_is.1, one.1, sym one.2.path, is),
    )
    by (Some settled) is (n, scope, inr (stay, same)) = absurd (some (ap (map option_view) stay.1))
