-- Sources by which places and comments are seen at work, and what each has of them.
use Rattle.descriptor_records.specs.Content.{LocationContent}
use Rattle.protox_file.specs.Sources.{Spells}
use Rattle.protox_laws.specs.WorkedLocations.{comment_places, declaration_places, file_places, message_places, statement_places}
use Rattle.protox_lex.specs.Class.{Text}
use Rattle.protox_lex.specs.Lines.{feeds_of}
use Rattle.protox_locate.specs.Files.{file_events}
use Rattle.protox_locate.specs.Located.{located}
use Rattle.protox_tree.specs.FileTree.{File}
use Rattle.std.specs.Prelude.{◌≡◌, ◌++◌, List, [], ◌∷◌, codes}

-- The text spells a tree, and these are the locations of what is met in it.
abbrev pub HasPlaces : Text → List LocationContent → Type 0
HasPlaces z places =
    (tree : File) × Spells z tree × (located z (feeds_of z) (file_events tree) ≡ places)

abbrev pub placed : List (Text × List LocationContent)
placed = (
  codes "// a\n\n// b\nsyntax = 'proto2'; // c\npackage p;\nimport 'q';\n"
      ++ codes "import weak 'r';\nimport public 's';\noption t = 1;",
  file_places (codes " a\n") (codes " b\n") (codes " c\n"),
)
    ∷ (
      codes "message M { required group G = 1 { } map<int32, P> m = 2; oneof o { "
          ++ codes "N b = 3 [default = x, t = 1]; } }",
      message_places,
    )
    ∷ (
      codes "message M { extensions 5, 6 to max [a = 1]; reserved 2; reserved 'x', 'y'; "
          ++ codes "option b = 1; message N { } map<int32, P> m = 8; extend .P { "
          ++ codes "optional bytes q = 7 [json_name = 'j']; repeated group G = 9 { } } }",
      statement_places,
    )
    ∷ (
      codes "enum E { A = -1 [c = 1]; option d = 1; reserved 2, 3 to 4; reserved 'B'; "
          ++ codes "} service S { rpc A(stream B) returns (C) { option e = 1; "
          ++ codes "} rpc D(E) returns (stream F); option f = 1; }",
      declaration_places,
    )
    ∷ (
      codes "message M {\n  // a\n  optional group G = 1 {\n    // b\n\n  } // c\n"
          ++ codes "  optional N d = 2; // e\n}\n; // f\nextend N { } // g\n",
      comment_places (codes " a\n") (codes " b\n") (codes " c\n") (codes " e\n"),
    )
    ∷ []
