-- What was looked at suits; so all suits exactly where what is left does.
use Rattle.std.proofs.Common.{◌≡◌, length, map, take, true}
use Rattle.std.specs.List.{list_all, zip}
use Rattle.reflect_tables.specs.Types.{PoolType, KindType}
use Rattle.reflect_pool.specs.Kinds.{IsKind}
use Rattle.reflect_scalar.specs.declared.map_key.MapKey.{MapKey}
use Rattle.reflect_message.specs.Names.{Value}
use Rattle.reflect_numbered.specs.Fits.{entry_fits, extension_fits, field_fits, fit_of, fits_of}
use Rattle.reflect_numbered.proofs.validity.+suits.Given as goal

abbrev pub invariant-extensions_suit-extensions : goal.invariant-extensions_suit-extensions
invariant-extensions_suit-extensions l = record {
  left : list_all (extension_fits l.strictness l.descriptor.pool.now l.descriptor.index) (fits_of (zip l.number-iterator.a.rest.now l.number-iterator.b.rest.now))
      ≡ list_all (extension_fits l.strictness l.descriptor.pool.now l.descriptor.index) (fits_of l.parts.extensions);
  even : length l.number-iterator.a.rest.now ≡ length l.number-iterator.b.rest.now;
}

abbrev pub invariant-fields_suit-fields : goal.invariant-fields_suit-fields
invariant-fields_suit-fields l = record {
  left : list_all (field_fits l.strictness l.descriptor.pool.now l.descriptor.index) (fits_of (zip l.number-iterator.a.rest.now l.number-iterator.b.rest.now))
      ≡ list_all (field_fits l.strictness l.descriptor.pool.now l.descriptor.index) (fits_of l.parts.fields);
  even : length l.number-iterator.a.rest.now ≡ length l.number-iterator.b.rest.now;
}

abbrev pub invariant-list_suits-values : goal.invariant-list_suits-values
invariant-list_suits-values l =
    (pool : PoolType) (k : KindType) → IsKind pool l.kind k
    → list_all (λ v. (fit_of v).one l.strictness pool k) (take l.value-index l.values) ≡ true

abbrev pub invariant-map_suits-entries : goal.invariant-map_suits-entries
invariant-map_suits-entries l =
    (pool : PoolType) (k w : KindType) → IsKind pool l.key_kind k → IsKind pool l.value_kind w
    → list_all (entry_fits l.strictness pool k w) (map (λ (e : MapKey × Value). (e.0, fit_of e.1)) l.key-iterator)
    ≡ list_all (entry_fits l.strictness pool k w) (map (λ (e : MapKey × Value). (e.0, fit_of e.1)) l.entries.entries)
