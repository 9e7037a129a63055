-- Options as sources give them (descriptor.proto; protobuf.dev, "Custom Options").
use Rattle.std.specs.Int.{w64}
use Rattle.std.specs.List.{AllByRecursion}
use Rattle.std.specs.Prelude.{◌≡◌, ◌⊎◌, List, [], ◌∷◌, true, None, Some, IfSome, FitsSigned, codes}
use Rattle.descriptor_records.specs.Content.{OptionContent, OptionsContent}
use Rattle.option_parts.specs.TypedOptions.{written_truth}
use Rattle.option_parts.specs.declared.option_scope.OptionScope.{OptionScope}
use Rattle.option_parts.specs.declared.option_scope.OptionScope.TheVariants as scopes

-- those of the type of a map's entries: it says that it is one, in the number 7
abbrev pub of_entries : OptionsContent
of_entries = record {
  encoded = 56 ∷ 1 ∷ [];
  packed = None;
  allow_alias = None;
  map_entry = Some true;
  uninterpreted_option = [];
}

-- what a source wrote, and nothing else
abbrev pub as_written : List OptionContent → OptionsContent
as_written os = record {
  encoded = [];
  packed = None;
  allow_alias = None;
  map_entry = None;
  uninterpreted_option = os;
}

-- numbers below 0 are those that an `i64` holds
abbrev pub HaveSmallNumbers : OptionsContent → Type 0
HaveSmallNumbers o =
    AllByRecursion (λ x. IfSome x.negative_int_value (FitsSigned w64)) o.uninterpreted_option

-- in the record of a source
abbrev pub AreAsWritten : OptionScope → OptionsContent → Type 0
AreAsWritten scope o = (o ≡ as_written o.uninterpreted_option)
    ⊎ ((scope ≡ scopes.Message) × (o ≡ of_entries))

abbrev pub AreOfSource : OptionScope → OptionsContent → Type 0
AreOfSource scope o = AreAsWritten scope o × HaveSmallNumbers o

-- what a source wrote, of which `packed` and `allow_alias` stand where linking reads them
abbrev pub as_read : OptionScope → List OptionContent → OptionsContent
as_read scope os = record (as_written os) {
  packed = elim scope [ scopes.Field ↦ written_truth (codes "packed") os | _ ↦ None ];
  allow_alias = elim scope [ scopes.Enum ↦ written_truth (codes "allow_alias") os | _ ↦ None ];
}

-- as linking gets them
abbrev pub AreAsRead : OptionScope → OptionsContent → Type 0
AreAsRead scope o = (o ≡ as_read scope o.uninterpreted_option)
    ⊎ ((scope ≡ scopes.Message) × (o ≡ of_entries))

abbrev pub AreGiven : OptionScope → OptionsContent → Type 0
AreGiven scope o = AreAsRead scope o × HaveSmallNumbers o
