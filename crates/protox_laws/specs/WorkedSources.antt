-- Sources by which the grammar is seen at work, and what each comes to: its tree, or its first
-- fault.
use Rattle.descriptor_records.specs.declared.field.FieldType.TheVariants as types
use Rattle.descriptor_records.specs.declared.field.Label.TheVariants as labels
use Rattle.protox_lex.specs.Class.{Text}
use Rattle.protox_lex.specs.Token.{ident, int, str, sign}
use Rattle.protox_lex.specs.declared.error.LexErrorKind.TheVariants as lexes
use Rattle.protox_lex.specs.declared.literal.Int.{Int}
use Rattle.protox_lex.specs.declared.span.Span.{Span}
use Rattle.protox_lex.specs.declared.token.Sign.TheVariants as s
use Rattle.protox_tokens.specs.Refusal.{Fault, a_field_value, a_file_item, a_message_value, a_number, a_service_item, an_ident, an_int, eof, hash_fault, lex_fault, this, too_deep, unexpected, unknown_syntax}
use Rattle.protox_tree.specs.FileTree.{File, file_empty, file_enum, file_extend, file_import, file_message, file_option, file_package, file_service}
use Rattle.protox_tree.specs.Nest.{a_group, added_empty, added_field, extend, field, group, item_field, item_oneof, map_kind, member_field, message, more_added, more_items, more_members, no_items, no_members, none_added, normal, oneof}
use Rattle.protox_tree.specs.Tree.{TypeName, Word, braces_value, enum_reserved, enum_value, extension, float_value, method_option, minus_word, named, plain, reserved_names, reserved_ranges, scalar, service_method, strings_value}
use Rattle.protox_tree.specs.declared.error.ParseErrorKind.{ParseErrorKind}
use Rattle.protox_tree.specs.declared.error.ParseErrorKind.TheVariants as kinds
use Rattle.protox_tree.specs.declared.file.ImportKind.TheVariants as imports
use Rattle.protox_tree.specs.declared.range.RangeEnd.TheVariants as ends
use Rattle.protox_tree.specs.declared.types.Syntax.TheVariants as syntaxes
use Rattle.std.specs.Prelude.{ℕ, zero, suc, ◌+◌, ◌++◌, Bool, true, false, List, [], ◌∷◌, length, None, Some, codes}

abbrev pub at : ℕ → ℕ → Span
at start end = record { start = start; end = end }

abbrev pub word_at : ℕ → Text → Word
word_at start t = record { text = t; span = at start (start + length t) }

abbrev pub literal_at : ℕ → ℕ → Text → Word
literal_at start end t = record { text = t; span = at start end }

abbrev pub number_at : ℕ → ℕ → Bool → ℕ → Int
number_at start end negative n = record { negative = negative; value = n; span = at start end }

-- a type's name of one word
abbrev pub one_part : Word → TypeName
one_part w = record { leading_dot = None; parts = w ∷ [] }

-- so many messages in one another
abbrev pub messages : ℕ → Text
messages zero = []
messages (suc levels) = codes "message M{" ++ (messages levels ++ codes "}")

-- so many braces in one another
abbrev pub braces : ℕ → Text
braces zero = []
braces (suc levels) = codes "a{" ++ (braces levels ++ codes "}")

abbrev pub in_option : Text → Text
in_option inside = codes "option a={" ++ (inside ++ codes "};")

abbrev pub read : List (Text × File)
read =
    -- a language, a package, an import and an empty statement
    (
      codes "syntax = \"proto3\"; package a.b; import public \"c\"; ;",
      record {
        syntax = Some (record {
          syntax = syntaxes.Proto3;
          value = literal_at 9 17 (codes "proto3") ∷ [];
          span = at 0 18;
        });
        items =
            file_package (record {
              name = word_at 27 (codes "a") ∷ (word_at 29 (codes "b") ∷ []);
              span = at 19 31;
            })
            ∷ (file_import (record {
              kind = Some (imports.Public, at 39 45);
              value = literal_at 46 49 (codes "c") ∷ [];
              span = at 32 50;
            })
            ∷ (file_empty (at 51 52) ∷ []));
        span = at 0 52;
      },
    )
    -- an enum: a value with options, reserved ranges and names
    ∷ (
      codes "enum E { B = -1 [(.c.d).e = \"x\" 'y']; reserved 2 to max, 3; reserved \"F\"; }",
      record {
        syntax = None;
        items = file_enum (record {
          name = word_at 5 (codes "E");
          braces = at 7 75;
          items =
              enum_value (record {
                name = word_at 9 (codes "B");
                number = number_at 13 15 true 1;
                options = Some (record {
                  options = record {
                    name =
                        extension (record {
                          leading_dot = Some (at 18 19);
                          parts = word_at 19 (codes "c") ∷ (word_at 21 (codes "d") ∷ []);
                        }) (at 17 23)
                        ∷ (plain (word_at 24 (codes "e")) ∷ []);
                    value = strings_value
                        (literal_at 28 31 (codes "x") ∷ (literal_at 32 35 (codes "y") ∷ []));
                  } ∷ [];
                  span = at 16 36;
                });
                span = at 9 37;
              })
              ∷ (enum_reserved (record {
                items = reserved_ranges (record {
                  start = number_at 47 48 false 2;
                  end = ends.Max (at 52 55);
                } ∷ (record { start = number_at 57 58 false 3; end = ends.None } ∷ []));
                span = at 38 59;
              })
              ∷ (enum_reserved (record {
                items = reserved_names ((literal_at 69 72 (codes "F") ∷ []) ∷ []);
                span = at 60 73;
              }) ∷ []));
          span = at 0 75;
        }) ∷ [];
        span = at 0 75;
      },
    )
    -- a service: a method that takes a stream, one without braces
    ∷ (
      codes "service S { rpc A(stream .C) returns (D) { option e = -inf; } rpc F(G) returns (H); }",
      record {
        syntax = None;
        items = file_service (record {
          name = word_at 8 (codes "S");
          braces = at 10 85;
          items =
              service_method (record {
                name = word_at 16 (codes "A");
                input = record {
                  stream = Some (at 18 24);
                  name = record {
                    leading_dot = Some (at 25 26);
                    parts = word_at 26 (codes "C") ∷ [];
                  };
                };
                output = record {
                  stream = None;
                  name = one_part (word_at 38 (codes "D"));
                };
                body = Some (record {
                  braces = at 41 61;
                  items = method_option (record {
                    body = record {
                      name = plain (word_at 50 (codes "e")) ∷ [];
                      value = minus_word (literal_at 54 58 (codes "inf"));
                    };
                    span = at 43 59;
                  }) ∷ [];
                });
                span = at 12 61;
              })
              ∷ (service_method (record {
                name = word_at 66 (codes "F");
                input = record {
                  stream = None;
                  name = one_part (word_at 68 (codes "G"));
                };
                output = record {
                  stream = None;
                  name = one_part (word_at 80 (codes "H"));
                };
                body = None;
                span = at 62 83;
              }) ∷ []);
          span = at 0 85;
        }) ∷ [];
        span = at 0 85;
      },
    )
    -- a message: a group, a map, a oneof whose field has a type that is called `map`
    ∷ (
      codes "message M { required group G = 1 { } map<int32, P> m = 2; oneof o { map.A b = 3; } }",
      record {
        syntax = None;
        items = file_message (message (word_at 8 (codes "M")) (at 10 84)
            (more_items
            (item_field (field (Some (labels.Required, at 12 20))
            (group (a_group (at 21 26) (at 33 36) no_items)) (word_at 27 (codes "G"))
            (number_at 31 32 false 1) None
            (at 12 36)))
            (more_items
            (item_field (field None
            (map_kind (record {
              key = scalar types.Int32 (at 41 46);
              value = named (one_part (word_at 48 (codes "P")));
              span = at 37 50;
            })) (word_at 51 (codes "m")) (number_at 55 56 false 2) None (at 37 57)))
            (more_items
            (item_oneof (oneof (word_at 64 (codes "o")) (at 66 82)
            (more_members
            (member_field (field None
            (normal (named (record {
              leading_dot = None;
              parts = word_at 68 (codes "map") ∷ (word_at 72 (codes "A") ∷ []);
            }))) (word_at 74 (codes "b")) (number_at 78 79 false 3) None (at 68 80)))
            no_members) (at 58 82)))
            no_items))) (at 0 84)) ∷ [];
        span = at 0 84;
      },
    )
    -- an extension, and an empty statement
    ∷ (
      codes "extend P { repeated bytes q = 6 [default = -.5]; ; }",
      record {
        syntax = None;
        items = file_extend (extend (one_part (word_at 7 (codes "P")))
            (at 9 52)
            (more_added
            (added_field (field (Some (labels.Repeated, at 11 19))
            (normal (scalar types.Bytes (at 20 25))) (word_at 26 (codes "q"))
            (number_at 30 31 false 6)
            (Some (record {
              options = record {
                name = plain (word_at 33 (codes "default")) ∷ [];
                value = float_value true (literal_at 43 46 (codes ".5"));
              } ∷ [];
              span = at 32 47;
            })) (at 11 48)))
            (more_added (added_empty (at 49 50)) none_added)) (at 0 52)) ∷ [];
        span = at 0 52;
      },
    )
    -- a value in braces, with a comment, in the text of its tokens
    ∷ (
      codes "option (o) = { a: 5 # c\n s { [t.u/v] < x: -1f, y: ['z', w]; > } };",
      record {
        syntax = None;
        items = file_option (record {
          body = record {
            name =
                extension (one_part (word_at 8 (codes "o"))) (at 7 10)
                ∷ [];
            value = braces_value
                (codes "a : 5 s { [ t . u / v ] < x : - 1f , y : [ \"z\" , w ] ; > }")
                (at 13 65);
          };
          span = at 0 66;
        }) ∷ [];
        span = at 0 66;
      },
    )
    ∷ []

abbrev pub refused : List (Text × Fault)
refused =
    -- a message has a name
    (codes "message {}", unexpected an_ident (sign s.LeftBrace) (at 8 9))
    -- a word that begins a statement always begins it, and so the three below
    ∷ (
      codes "message M { oneof bar = 1; }",
      unexpected (this (sign s.LeftBrace)) (sign s.Equals) (at 22 23),
    )
    ∷ (codes "message M { required = 1; }", unexpected an_ident (sign s.Equals) (at 21 22))
    ∷ (codes "message M { optional group = 1; }", unexpected an_ident (sign s.Equals) (at 27 28))
    ∷ (
      codes "service S { rpc A(stream) returns (B); }",
      unexpected an_ident (sign s.RightParen) (at 24 25),
    )
    -- brackets have an option
    ∷ (codes "message M { extensions 5 []; }", unexpected an_ident (sign s.RightBracket) (at 26 27))
    -- ranges and names are not mixed
    ∷ (codes "message M { reserved 1, 'a'; }", unexpected an_int (str (codes "a")) (at 24 27))
    -- a statement has an end
    ∷ (
      codes "message M { int32 a = 1 }",
      unexpected (this (sign s.Semicolon)) (sign s.RightBrace) (at 24 25),
    )
    -- so have braces
    ∷ (codes "enum E { A = 0; ", eof an_ident)
    -- the word stands in front of the name
    ∷ (
      codes "import 'a' weak;",
      unexpected (this (sign s.Semicolon)) (ident (codes "weak")) (at 11 15),
    )
    -- a method stands in a service
    ∷ (codes "rpc A(B) returns (C);", unexpected a_file_item (ident (codes "rpc")) (at 0 3))
    ∷ (
      codes "service S { message M {} }",
      unexpected a_service_item (ident (codes "message")) (at 12 19),
    )
    -- editions and other languages are not known
    ∷ (codes "edition = '2023';", unknown_syntax (at 0 7))
    ∷ (codes "syntax = 'proto4';", unknown_syntax (at 9 17))
    -- without a colon stand only braces
    ∷ (codes "option a = { b 1 };", unexpected a_message_value (int 1) (at 15 16))
    -- no list stands in a list
    ∷ (codes "option a = { b: [[1]] };", unexpected a_field_value (sign s.LeftBracket) (at 17 18))
    -- a minus stands before a number, `inf` or `nan`
    ∷ (codes "option a = - b;", unexpected a_number (ident (codes "b")) (at 13 14))
    -- and before no more than 2^63
    ∷ (codes "option a = -9223372036854775809;", lex_fault lexes.IntegerOutOfRange (at 11 31))
    -- text format stands in braces alone: a comment, and a number
    ∷ (codes "option a = 1; # c", hash_fault (at 14 17))
    ∷ (codes "option a = 1f;", lex_fault lexes.FloatSuffixOutsideTextFormat (at 11 13))
    -- the first fault is told
    ∷ (codes "import 'a'; enum @ 'b", lex_fault lexes.InvalidToken (at 17 18))
    -- a level of messages too many, and a brace too many
    ∷ (messages 32, too_deep (at 319 320))
    ∷ (in_option (braces 101), too_deep (at 211 212))
    ∷ []

-- Trees that are at fault, with all their faults: one for each rule at least.
abbrev pub at_fault : List (Text × List ParseErrorKind)
at_fault = (
  codes "message M { optional int32 a = 0; optional int32 b = 19000; }",
  kinds.InvalidMessageNumber (at 31 32) ∷ (kinds.ReservedMessageNumber (at 53 58) ∷ []),
)
    ∷ (codes "enum E { A = 2147483648; }", kinds.InvalidEnumNumber (at 13 23) ∷ [])
    ∷ (
      codes "message M { reserved 3 to 2, 0; }",
      kinds.InvalidRange (at 21 27) ∷ (kinds.InvalidRange (at 29 30) ∷ []),
    )
    ∷ (codes "package a; package b;", kinds.DuplicatePackage (at 0 10) (at 11 21) ∷ [])
    ∷ (codes "message M { required group g = 1 { } }", kinds.InvalidGroupName (at 27 28) ∷ [])
    ∷ (codes "message M { oneof o { } }", kinds.EmptyOneof (at 12 23) ∷ [])
    ∷ (codes "message M { int32 a = 1; }", kinds.MissingLabel (at 12 24) ∷ [])
    ∷ (
      codes "syntax = 'proto3'; message M { required int32 a = 1; }",
      kinds.RequiredInProto3 (at 31 39) ∷ [],
    )
    ∷ (
      codes "syntax = 'proto3'; message M { repeated group G = 1 { } }",
      kinds.GroupInProto3 (at 31 55) ∷ [],
    )
    ∷ (
      codes "message M { oneof o { optional int32 a = 1; } }",
      kinds.OneofFieldWithLabel (at 22 30) ∷ [],
    )
    ∷ (codes "message M { repeated map<int32, P> a = 1; }", kinds.MapFieldWithLabel (at 12 20) ∷ [])
    ∷ (
      codes "message M { oneof o { map<int32, P> a = 1; } }",
      kinds.MapFieldInOneof (at 22 42) ∷ [],
    )
    ∷ (codes "extend P { map<int32, P> a = 1; }", kinds.MapFieldInExtend (at 11 31) ∷ [])
    ∷ (codes "message M { map<float, P> a = 1; }", kinds.InvalidMapKeyType (at 16 21) ∷ [])
    ∷ (codes "extend P { required int32 a = 1; }", kinds.RequiredExtension (at 11 19) ∷ [])
    ∷ (
      codes "syntax = 'proto3'; message M { int32 a = 1 [default = 2]; }",
      kinds.DefaultInProto3 (at 44 55) ∷ [],
    )
    ∷ (
      codes "message M { optional int32 a = 1 [default = 'b']; }",
      kinds.InvalidDefault (at 34 47) ∷ [],
    )
    ∷ (
      codes "message M { optional int32 a = 1 [json_name = 2]; }",
      kinds.InvalidJsonName (at 46 47) ∷ [],
    )
    ∷ (
      codes "message M { optional int32 a = 1 [default = 1, default = 2]; }",
      kinds.DuplicateFieldOption (at 34 45) (at 47 58) ∷ [],
    )
    ∷ (codes "import '\\xff';", kinds.InvalidUtf8String (at 7 13) ∷ [])
    ∷ (
      codes "syntax = 'proto3'; message M { extensions 5; }",
      kinds.ExtensionRangeInProto3 (at 31 44) ∷ [],
    )
    ∷ []
