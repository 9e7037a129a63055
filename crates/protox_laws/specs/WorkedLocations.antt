-- What stands where in the sources by which places are seen at work: its path, by the numbers of
-- descriptor.proto, and its span, as it comes in the source.
use Rattle.descriptor_records.specs.Content.{LocationContent}
use Rattle.protox_lex.specs.Class.{Text}
use Rattle.std.specs.Prelude.{ℕ, pos, List, [], ◌∷◌, map, Option, None, Some}

-- the path, and the span
abbrev pub place : List ℕ → List ℕ → LocationContent
place path span = record {
  path = map pos path;
  span = map pos span;
  leading_comments = None;
  trailing_comments = None;
  leading_detached_comments = [];
}

-- line, column and end column
abbrev pub on_line : List ℕ → ℕ → ℕ → ℕ → LocationContent
on_line path line column end = place path (line ∷ column ∷ end ∷ [])

-- line, column, end line and end column
abbrev pub over_lines : List ℕ → ℕ → ℕ → ℕ → ℕ → LocationContent
over_lines path line column end_line end = place path (line ∷ column ∷ end_line ∷ end ∷ [])

-- the comment that trails it, those that stand apart, and the one that leads it
abbrev pub with_notes : Option Text → List Text → Option Text → LocationContent → LocationContent
with_notes trailing detached leading l = record l {
  trailing_comments = trailing;
  leading_detached_comments = detached;
  leading_comments = leading;
}

-- A file: its language, package, imports and options. The first comment stands apart.
abbrev pub file_places : Text → Text → Text → List LocationContent
file_places a b c =
    over_lines [] 3 0 8 13
    ∷ with_notes (Some c) (a ∷ []) (Some b) (on_line (12 ∷ []) 3 0 18)
    ∷ on_line (2 ∷ []) 4 0 10
    ∷ on_line (3 ∷ 0 ∷ []) 5 0 11
    ∷ on_line (3 ∷ 1 ∷ []) 6 0 16
    ∷ on_line (11 ∷ 0 ∷ []) 6 7 11
    ∷ on_line (3 ∷ 2 ∷ []) 7 0 18
    ∷ on_line (10 ∷ 0 ∷ []) 7 7 13
    ∷ on_line (8 ∷ 999 ∷ 0 ∷ []) 8 0 13
    ∷ on_line (8 ∷ []) 8 0 13
    ∷ []

-- A message: a group, which is a field and a type, a map and a oneof.
abbrev pub message_places : List LocationContent
message_places =
    on_line [] 0 0 101
    ∷ on_line (4 ∷ 0 ∷ []) 0 0 101
    ∷ on_line (4 ∷ 0 ∷ 1 ∷ []) 0 8 9
    ∷ on_line (4 ∷ 0 ∷ 2 ∷ 0 ∷ []) 0 12 36
    ∷ on_line (4 ∷ 0 ∷ 2 ∷ 0 ∷ 1 ∷ []) 0 27 28
    ∷ on_line (4 ∷ 0 ∷ 2 ∷ 0 ∷ 3 ∷ []) 0 31 32
    ∷ on_line (4 ∷ 0 ∷ 2 ∷ 0 ∷ 4 ∷ []) 0 12 20
    ∷ on_line (4 ∷ 0 ∷ 2 ∷ 0 ∷ 5 ∷ []) 0 21 26
    ∷ on_line (4 ∷ 0 ∷ 2 ∷ 0 ∷ 6 ∷ []) 0 27 28
    ∷ on_line (4 ∷ 0 ∷ 3 ∷ 0 ∷ []) 0 12 36
    ∷ on_line (4 ∷ 0 ∷ 3 ∷ 0 ∷ 1 ∷ []) 0 27 28
    ∷ on_line (4 ∷ 0 ∷ 2 ∷ 1 ∷ []) 0 37 57
    ∷ on_line (4 ∷ 0 ∷ 2 ∷ 1 ∷ 1 ∷ []) 0 51 52
    ∷ on_line (4 ∷ 0 ∷ 2 ∷ 1 ∷ 3 ∷ []) 0 55 56
    ∷ on_line (4 ∷ 0 ∷ 2 ∷ 1 ∷ 6 ∷ []) 0 37 50
    ∷ on_line (4 ∷ 0 ∷ 8 ∷ 0 ∷ []) 0 58 99
    ∷ on_line (4 ∷ 0 ∷ 8 ∷ 0 ∷ 1 ∷ []) 0 64 65
    ∷ on_line (4 ∷ 0 ∷ 2 ∷ 2 ∷ []) 0 68 97
    ∷ on_line (4 ∷ 0 ∷ 2 ∷ 2 ∷ 1 ∷ []) 0 70 71
    ∷ on_line (4 ∷ 0 ∷ 2 ∷ 2 ∷ 3 ∷ []) 0 74 75
    ∷ on_line (4 ∷ 0 ∷ 2 ∷ 2 ∷ 6 ∷ []) 0 68 69
    ∷ on_line (4 ∷ 0 ∷ 2 ∷ 2 ∷ 8 ∷ []) 0 77 95
    ∷ on_line (4 ∷ 0 ∷ 2 ∷ 2 ∷ 7 ∷ []) 0 87 88
    ∷ on_line (4 ∷ 0 ∷ 2 ∷ 2 ∷ 8 ∷ 999 ∷ 0 ∷ []) 0 90 95
    ∷ []

-- Ranges, names, options and a message in a message. The type of the group among the extensions
-- stands behind that message and the map's entries.
abbrev pub statement_places : List LocationContent
statement_places =
    on_line [] 0 0 204
    ∷ on_line (4 ∷ 0 ∷ []) 0 0 204
    ∷ on_line (4 ∷ 0 ∷ 1 ∷ []) 0 8 9
    ∷ on_line (4 ∷ 0 ∷ 5 ∷ []) 0 12 43
    ∷ on_line (4 ∷ 0 ∷ 5 ∷ 0 ∷ []) 0 23 24
    ∷ on_line (4 ∷ 0 ∷ 5 ∷ 0 ∷ 1 ∷ []) 0 23 24
    ∷ on_line (4 ∷ 0 ∷ 5 ∷ 0 ∷ 2 ∷ []) 0 23 24
    ∷ on_line (4 ∷ 0 ∷ 5 ∷ 0 ∷ 3 ∷ []) 0 36 41
    ∷ on_line (4 ∷ 0 ∷ 5 ∷ 0 ∷ 3 ∷ 999 ∷ 0 ∷ []) 0 36 41
    ∷ on_line (4 ∷ 0 ∷ 5 ∷ 1 ∷ []) 0 26 34
    ∷ on_line (4 ∷ 0 ∷ 5 ∷ 1 ∷ 1 ∷ []) 0 26 27
    ∷ on_line (4 ∷ 0 ∷ 5 ∷ 1 ∷ 2 ∷ []) 0 31 34
    ∷ on_line (4 ∷ 0 ∷ 5 ∷ 1 ∷ 3 ∷ []) 0 36 41
    ∷ on_line (4 ∷ 0 ∷ 5 ∷ 1 ∷ 3 ∷ 999 ∷ 0 ∷ []) 0 36 41
    ∷ on_line (4 ∷ 0 ∷ 9 ∷ []) 0 44 55
    ∷ on_line (4 ∷ 0 ∷ 9 ∷ 0 ∷ []) 0 53 54
    ∷ on_line (4 ∷ 0 ∷ 9 ∷ 0 ∷ 1 ∷ []) 0 53 54
    ∷ on_line (4 ∷ 0 ∷ 9 ∷ 0 ∷ 2 ∷ []) 0 53 54
    ∷ on_line (4 ∷ 0 ∷ 10 ∷ []) 0 56 74
    ∷ on_line (4 ∷ 0 ∷ 10 ∷ 0 ∷ []) 0 65 68
    ∷ on_line (4 ∷ 0 ∷ 10 ∷ 1 ∷ []) 0 70 73
    ∷ on_line (4 ∷ 0 ∷ 7 ∷ 999 ∷ 0 ∷ []) 0 75 88
    ∷ on_line (4 ∷ 0 ∷ 7 ∷ []) 0 75 88
    ∷ on_line (4 ∷ 0 ∷ 3 ∷ 0 ∷ []) 0 89 102
    ∷ on_line (4 ∷ 0 ∷ 3 ∷ 0 ∷ 1 ∷ []) 0 97 98
    ∷ on_line (4 ∷ 0 ∷ 2 ∷ 0 ∷ []) 0 103 123
    ∷ on_line (4 ∷ 0 ∷ 2 ∷ 0 ∷ 1 ∷ []) 0 117 118
    ∷ on_line (4 ∷ 0 ∷ 2 ∷ 0 ∷ 3 ∷ []) 0 121 122
    ∷ on_line (4 ∷ 0 ∷ 2 ∷ 0 ∷ 6 ∷ []) 0 103 116
    ∷ on_line (4 ∷ 0 ∷ 6 ∷ []) 0 124 202
    ∷ on_line (4 ∷ 0 ∷ 6 ∷ 0 ∷ []) 0 136 175
    ∷ on_line (4 ∷ 0 ∷ 6 ∷ 0 ∷ 1 ∷ []) 0 151 152
    ∷ on_line (4 ∷ 0 ∷ 6 ∷ 0 ∷ 2 ∷ []) 0 131 133
    ∷ on_line (4 ∷ 0 ∷ 6 ∷ 0 ∷ 3 ∷ []) 0 155 156
    ∷ on_line (4 ∷ 0 ∷ 6 ∷ 0 ∷ 4 ∷ []) 0 136 144
    ∷ on_line (4 ∷ 0 ∷ 6 ∷ 0 ∷ 5 ∷ []) 0 145 150
    ∷ on_line (4 ∷ 0 ∷ 6 ∷ 0 ∷ 8 ∷ []) 0 158 173
    ∷ on_line (4 ∷ 0 ∷ 6 ∷ 0 ∷ 10 ∷ []) 0 170 173
    ∷ on_line (4 ∷ 0 ∷ 6 ∷ 1 ∷ []) 0 176 200
    ∷ on_line (4 ∷ 0 ∷ 6 ∷ 1 ∷ 1 ∷ []) 0 191 192
    ∷ on_line (4 ∷ 0 ∷ 6 ∷ 1 ∷ 2 ∷ []) 0 131 133
    ∷ on_line (4 ∷ 0 ∷ 6 ∷ 1 ∷ 3 ∷ []) 0 195 196
    ∷ on_line (4 ∷ 0 ∷ 6 ∷ 1 ∷ 4 ∷ []) 0 176 184
    ∷ on_line (4 ∷ 0 ∷ 6 ∷ 1 ∷ 5 ∷ []) 0 185 190
    ∷ on_line (4 ∷ 0 ∷ 6 ∷ 1 ∷ 6 ∷ []) 0 191 192
    ∷ on_line (4 ∷ 0 ∷ 3 ∷ 2 ∷ []) 0 176 200
    ∷ on_line (4 ∷ 0 ∷ 3 ∷ 2 ∷ 1 ∷ []) 0 191 192
    ∷ []

-- An enum and a service.
abbrev pub declaration_places : List LocationContent
declaration_places =
    on_line [] 0 0 177
    ∷ on_line (5 ∷ 0 ∷ []) 0 0 74
    ∷ on_line (5 ∷ 0 ∷ 1 ∷ []) 0 5 6
    ∷ on_line (5 ∷ 0 ∷ 2 ∷ 0 ∷ []) 0 9 24
    ∷ on_line (5 ∷ 0 ∷ 2 ∷ 0 ∷ 1 ∷ []) 0 9 10
    ∷ on_line (5 ∷ 0 ∷ 2 ∷ 0 ∷ 2 ∷ []) 0 13 15
    ∷ on_line (5 ∷ 0 ∷ 2 ∷ 0 ∷ 3 ∷ []) 0 17 22
    ∷ on_line (5 ∷ 0 ∷ 2 ∷ 0 ∷ 3 ∷ 999 ∷ 0 ∷ []) 0 17 22
    ∷ on_line (5 ∷ 0 ∷ 3 ∷ 999 ∷ 0 ∷ []) 0 25 38
    ∷ on_line (5 ∷ 0 ∷ 3 ∷ []) 0 25 38
    ∷ on_line (5 ∷ 0 ∷ 4 ∷ []) 0 39 58
    ∷ on_line (5 ∷ 0 ∷ 4 ∷ 0 ∷ []) 0 48 49
    ∷ on_line (5 ∷ 0 ∷ 4 ∷ 0 ∷ 1 ∷ []) 0 48 49
    ∷ on_line (5 ∷ 0 ∷ 4 ∷ 0 ∷ 2 ∷ []) 0 48 49
    ∷ on_line (5 ∷ 0 ∷ 4 ∷ 1 ∷ []) 0 51 57
    ∷ on_line (5 ∷ 0 ∷ 4 ∷ 1 ∷ 1 ∷ []) 0 51 52
    ∷ on_line (5 ∷ 0 ∷ 4 ∷ 1 ∷ 2 ∷ []) 0 56 57
    ∷ on_line (5 ∷ 0 ∷ 5 ∷ []) 0 59 72
    ∷ on_line (5 ∷ 0 ∷ 5 ∷ 0 ∷ []) 0 68 71
    ∷ on_line (6 ∷ 0 ∷ []) 0 75 177
    ∷ on_line (6 ∷ 0 ∷ 1 ∷ []) 0 83 84
    ∷ on_line (6 ∷ 0 ∷ 2 ∷ 0 ∷ []) 0 87 132
    ∷ on_line (6 ∷ 0 ∷ 2 ∷ 0 ∷ 1 ∷ []) 0 91 92
    ∷ on_line (6 ∷ 0 ∷ 2 ∷ 0 ∷ 5 ∷ []) 0 93 99
    ∷ on_line (6 ∷ 0 ∷ 2 ∷ 0 ∷ 2 ∷ []) 0 100 101
    ∷ on_line (6 ∷ 0 ∷ 2 ∷ 0 ∷ 3 ∷ []) 0 112 113
    ∷ on_line (6 ∷ 0 ∷ 2 ∷ 0 ∷ 4 ∷ 999 ∷ 0 ∷ []) 0 117 130
    ∷ on_line (6 ∷ 0 ∷ 2 ∷ 0 ∷ 4 ∷ []) 0 117 130
    ∷ on_line (6 ∷ 0 ∷ 2 ∷ 1 ∷ []) 0 133 161
    ∷ on_line (6 ∷ 0 ∷ 2 ∷ 1 ∷ 1 ∷ []) 0 137 138
    ∷ on_line (6 ∷ 0 ∷ 2 ∷ 1 ∷ 2 ∷ []) 0 139 140
    ∷ on_line (6 ∷ 0 ∷ 2 ∷ 1 ∷ 6 ∷ []) 0 151 157
    ∷ on_line (6 ∷ 0 ∷ 2 ∷ 1 ∷ 3 ∷ []) 0 158 159
    ∷ on_line (6 ∷ 0 ∷ 3 ∷ 999 ∷ 0 ∷ []) 0 162 175
    ∷ on_line (6 ∷ 0 ∷ 3 ∷ []) 0 162 175
    ∷ []

-- The comments of a group are at its type, none trails a closing brace, and that of an empty
-- statement is no location's.
abbrev pub comment_places : Text → Text → Text → Text → List LocationContent
comment_places a b c e =
    over_lines [] 0 0 9 12
    ∷ over_lines (4 ∷ 0 ∷ []) 0 0 7 1
    ∷ on_line (4 ∷ 0 ∷ 1 ∷ []) 0 8 9
    ∷ over_lines (4 ∷ 0 ∷ 2 ∷ 0 ∷ []) 2 2 5 3
    ∷ on_line (4 ∷ 0 ∷ 2 ∷ 0 ∷ 1 ∷ []) 2 17 18
    ∷ on_line (4 ∷ 0 ∷ 2 ∷ 0 ∷ 3 ∷ []) 2 21 22
    ∷ on_line (4 ∷ 0 ∷ 2 ∷ 0 ∷ 4 ∷ []) 2 2 10
    ∷ on_line (4 ∷ 0 ∷ 2 ∷ 0 ∷ 5 ∷ []) 2 11 16
    ∷ on_line (4 ∷ 0 ∷ 2 ∷ 0 ∷ 6 ∷ []) 2 17 18
    ∷ with_notes (Some b) [] (Some a) (over_lines (4 ∷ 0 ∷ 3 ∷ 0 ∷ []) 2 2 5 3)
    ∷ on_line (4 ∷ 0 ∷ 3 ∷ 0 ∷ 1 ∷ []) 2 17 18
    ∷ with_notes (Some e) [] (Some c) (on_line (4 ∷ 0 ∷ 2 ∷ 1 ∷ []) 6 2 19)
    ∷ on_line (4 ∷ 0 ∷ 2 ∷ 1 ∷ 1 ∷ []) 6 13 14
    ∷ on_line (4 ∷ 0 ∷ 2 ∷ 1 ∷ 3 ∷ []) 6 17 18
    ∷ on_line (4 ∷ 0 ∷ 2 ∷ 1 ∷ 4 ∷ []) 6 2 10
    ∷ on_line (4 ∷ 0 ∷ 2 ∷ 1 ∷ 6 ∷ []) 6 11 12
    ∷ on_line (7 ∷ []) 9 0 12
    ∷ []
