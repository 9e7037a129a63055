-- Files may have such names: here a message with a group and a map, the name of whose entries' type
-- begins with a digit.
use Rattle.std.proofs.Common.{inl, inr, ℤ, pos, true, [], ◌∷◌, Option, None, Some, codes, refl}
use Rattle.descriptor_records.specs.Content.{Text, OptionsContent, FieldContent, MessageContent, message, no_messages, more_messages, FileContent}
use Rattle.source_records.specs.SourceNames.{IsSourceMessage, IsSourceFile}

abbrev field : Text → ℤ → ℤ → Option Text → FieldContent
field name number type type_name = record {
  name = Some name;
  number = Some number;
  label = None;
  field_type = Some type;
  type_name = type_name;
  extendee = None;
  default_value = None;
  oneof_index = None;
  json_name = None;
  options = None;
  proto3_optional = None;
}

abbrev result : MessageContent
result = message (Some (codes "Result")) (field (codes "url") (pos 2) (pos 9) None ∷ []) []
    no_messages [] [] [] None [] []

abbrev entry_options : OptionsContent
entry_options = record {
  encoded = [];
  packed = None;
  allow_alias = None;
  map_entry = Some true;
  uninterpreted_option = [];
}

abbrev entry : MessageContent
entry = message (Some (codes "1Entry")) (
    field (codes "key") (pos 1) (pos 9) None
    ∷ field (codes "value") (pos 2) (pos 5) None ∷ []
    ) [] no_messages [] [] [] (Some entry_options) [] []

abbrev response : MessageContent
response = message (Some (codes "Response")) (
    field (codes "result") (pos 1) (pos 10) (Some (codes "Result"))
    ∷ field (codes "_1") (pos 2) (pos 11) (Some (codes "1Entry")) ∷ []
    ) [] (more_messages result (more_messages entry no_messages)) [] [] [] None [] []

abbrev the_file : FileContent
the_file = record {
  name = Some (codes "search.proto");
  package_name = Some (codes "search.v1");
  dependency = [];
  public_dependency = [];
  weak_dependency = [];
  message_type = response ∷ [];
  enum_type = [];
  service = [];
  extension = [];
  options = None;
  source_code_info = None;
  syntax_name = None;
}

result_named : IsSourceMessage result
result_named = (
  record {
    named = inl refl;
    fields_are = (refl, tt);
    extensions_are = tt;
    values = tt;
    groups = (λ is. absurd (cc is), tt);
    parts = λ is. absurd is;
    none_extended = λ is. absurd is;
    none_nested = λ is. absurd is;
  },
  tt,
)

entry_named : IsSourceMessage entry
entry_named = (
  record {
    named = inr (refl, refl);
    fields_are = (refl, (refl, tt));
    extensions_are = tt;
    values = tt;
    groups = (λ is. absurd (cc is), (λ is. absurd (cc is), tt));
    parts = λ is. (
      record { named = refl; numbered = refl; plain = λ g. cc g; usual = refl; alone = refl },
      record { named = refl; numbered = refl; plain = λ g. cc g; usual = refl; alone = refl },
    );
    none_extended = λ is. refl;
    none_nested = λ is. refl;
  },
  tt,
)

response_named : IsSourceMessage response
response_named = (
  record {
    named = inl refl;
    fields_are = (refl, (refl, tt));
    extensions_are = tt;
    values = tt;
    groups = (
      λ is. record {
        type = codes "Result";
        typed = refl;
        spelled = refl;
        there = inl refl;
        lower = refl;
      },
      (λ is. absurd (cc is), tt),
    );
    parts = λ is. absurd is;
    none_extended = λ is. absurd is;
    none_nested = λ is. absurd is;
  },
  (result_named, (entry_named, tt)),
)

the_file_is_named : IsSourceFile the_file
the_file_is_named = record {
  packaged = refl;
  messages = (response_named, tt);
  enums = tt;
  extensions = tt;
}
