-- Sources with several faults, and with what is just none: which faults they have, in which order.
use Rattle.protox_laws.specs.WorkedSources.{at}
use Rattle.protox_lex.specs.Class.{Text}
use Rattle.protox_tree.specs.declared.error.ParseErrorKind.{ParseErrorKind}
use Rattle.protox_tree.specs.declared.error.ParseErrorKind.TheVariants as kinds
use Rattle.std.specs.Prelude.{◌++◌, List, [], ◌∷◌, codes}

abbrev pub of_numbers : List (Text × List ParseErrorKind)
of_numbers =
    -- the first and the last number of a field, and the last of those that are kept
    (
      codes "message M { optional int32 a = 1; optional int32 b = 536870911; "
          ++ codes "optional int32 c = 536870912; optional int32 d = -1; "
          ++ codes "optional int32 e = 18999; optional int32 f = 19999; "
          ++ codes "optional int32 g = 20000; }",
      kinds.InvalidMessageNumber (at 83 92) ∷ kinds.InvalidMessageNumber (at 113 115)
          ∷ kinds.ReservedMessageNumber (at 162 167) ∷ [],
    )
    -- the first and the last number of a value, and ranges of them
    ∷ (
      codes "enum E { A = -2147483648; B = 2147483647; C = -2147483649; "
          ++ codes "reserved 3 to 3, -5 to max, 5 to 4, 2147483648 to 1; }",
      kinds.InvalidEnumNumber (at 46 57) ∷ kinds.InvalidRange (at 87 93)
          ∷ kinds.InvalidRange (at 95 105) ∷ [],
    )
    -- ranges of a message: both bounds are told where both are at fault
    ∷ (
      codes "message M { reserved 1 to 536870911, 536870912, 0 to 536870912; "
          ++ codes "extensions 9 to 9, 9 to 8, 7 to max; }",
      kinds.InvalidRange (at 37 46) ∷ kinds.InvalidRange (at 48 49)
          ∷ kinds.InvalidRange (at 53 62) ∷ kinds.InvalidRange (at 83 89) ∷ [],
    )
    ∷ []

abbrev pub of_fields : List (Text × List ParseErrorKind)
of_fields =
    -- all that is wrong with one field, in its order
    (
      codes "syntax = 'proto3'; message M { oneof o { "
          ++ codes "required map<bytes, P> a = 0 [default = 1, json_name = '\\xff', default = 2]; "
          ++ codes "} }",
      kinds.RequiredInProto3 (at 41 49) ∷ kinds.OneofFieldWithLabel (at 41 49)
          ∷ kinds.MapFieldWithLabel (at 41 49) ∷ kinds.MapFieldInOneof (at 41 117)
          ∷ kinds.InvalidMapKeyType (at 54 59) ∷ kinds.InvalidMessageNumber (at 68 69)
          ∷ kinds.DefaultInProto3 (at 71 82) ∷ kinds.InvalidDefault (at 71 82)
          ∷ kinds.InvalidUtf8String (at 96 102) ∷ kinds.DefaultInProto3 (at 104 115)
          ∷ kinds.InvalidDefault (at 104 115)
          ∷ kinds.DuplicateFieldOption (at 71 82) (at 104 115) ∷ [],
    )
    -- a group's own faults stand before those in it
    ∷ (
      codes "extend P { group g = 19000 { "
          ++ codes "optional string s = 1 [json_name = a, default = '\\xff']; "
          ++ codes "} required map<P, P> m = 1; }",
      kinds.MissingLabel (at 11 87) ∷ kinds.InvalidGroupName (at 17 18)
          ∷ kinds.ReservedMessageNumber (at 21 26) ∷ kinds.InvalidJsonName (at 64 65)
          ∷ kinds.InvalidUtf8String (at 77 83) ∷ kinds.MapFieldWithLabel (at 88 96)
          ∷ kinds.MapFieldInExtend (at 88 113) ∷ kinds.RequiredExtension (at 88 96)
          ∷ kinds.InvalidMapKeyType (at 101 102) ∷ [],
    )
    -- each package but the first, with that one
    ∷ (
      codes "package a; package b; package c; message M { reserved '\\xff'; }",
      kinds.DuplicatePackage (at 0 10) (at 11 21)
          ∷ kinds.DuplicatePackage (at 0 10) (at 22 32) ∷ kinds.InvalidUtf8String (at 54 60) ∷ [],
    )
    ∷ []

abbrev pub of_defaults : List (Text × List ParseErrorKind)
of_defaults =
    -- defaults that suit truth values and floating-point numbers, and others
    (
      codes "message M { optional bool a = 1 [default = true]; "
          ++ codes "optional double b = 2 [default = -inf]; "
          ++ codes "optional float c = 3 [default = nan]; optional float d = 4 [default = 1]; "
          ++ codes "optional bool e = 5 [default = 1]; optional double f = 6 [default = X]; }",
      kinds.InvalidDefault (at 185 196) ∷ kinds.InvalidDefault (at 222 233) ∷ [],
    )
    -- those of enums and of bytes
    ∷ (
      codes "message M { optional E a = 1 [default = X]; "
          ++ codes "optional E b = 2 [default = 'X']; optional bytes c = 3 [default = '\\xff']; "
          ++ codes "optional bytes d = 4 [default = X]; }",
      kinds.InvalidDefault (at 62 75) ∷ kinds.InvalidDefault (at 141 152) ∷ [],
    )
    ∷ []

abbrev pub of_other_fields : List (Text × List ParseErrorKind)
of_other_fields =
    -- those of integers, and of lists, which have none
    (
      codes "message M { optional uint32 a = 1 [default = -1]; "
          ++ codes "optional int32 b = 2 [default = 1.0]; repeated int32 c = 3 [default = 1]; }",
      kinds.InvalidDefault (at 72 85) ∷ kinds.InvalidDefault (at 110 121) ∷ [],
    )
    -- types of keys
    ∷ (
      codes "message M { map<bool, P> a = 1; map<string, P> b = 2; "
          ++ codes "map<sfixed64, P> c = 3; map<double, P> d = 4; map<E, P> e = 5; }",
      kinds.InvalidMapKeyType (at 82 88) ∷ kinds.InvalidMapKeyType (at 104 105) ∷ [],
    )
    ∷ []
