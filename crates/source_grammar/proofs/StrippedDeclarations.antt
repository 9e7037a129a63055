-- Enums and services as tokens alone: these spell the tree without its places.
use Rattle.std.proofs.Common.{[], ℕ, ◌∷◌, Option, Some, None, refl}
use Rattle.std.specs.Prelude.{codes, option_map}
use Rattle.protox_laws.specs.Unplaced as unplaced
use Rattle.protox_lex.specs.Token.{ident, sign}
use Rattle.protox_lex.specs.declared.span.Span.{Span}
use Rattle.protox_lex.specs.declared.token.Sign.TheVariants as s
use Rattle.protox_tree.specs.Tree.{EnumValue, EnumItem, enum_value, enum_option, enum_reserved, enum_empty, Enum, TypeName, MethodType, MethodItem, method_option, method_empty, MethodBody, Method, ServiceItem, service_method, service_option, service_empty, Service}
use Rattle.source_grammar.proofs.Shown.{shows_then, strips_unless}
use Rattle.source_grammar.proofs.Stripped.{Strips, strips_spot, strips_token, strips_the, strips_nothing, strips_then, strips_each}
use Rattle.source_grammar.proofs.StrippedOptions.{strips_word, shows_word, strips_type_name, shows_type_name, strips_integer, strips_option, strips_options, strips_reserved}
use Rattle.source_grammar.specs.Enums.{an_enum_value, an_enum_item, an_enum}
use Rattle.source_grammar.specs.Services.{a_method_type, a_method_item, a_method_end, a_method, a_service_item, a_service}

-- ---- enums

strips_value : (v : EnumValue) → Strips (an_enum_value v) (an_enum_value (unplaced.an_enum_value v))
strips_value v = strips_then (strips_word v.name) (strips_then (strips_the (sign s.Equals))
    (strips_then (strips_integer v.number) (strips_then (strips_options v.options) (strips_token (sign s.Semicolon) (refl, refl)))))

strips_item : (i : EnumItem) → Strips (an_enum_item i) (an_enum_item (unplaced.an_enum_item i))
strips_item (enum_value v) = strips_unless (codes "reserved" ∷ codes "option" ∷ []) (shows_then (shows_word v.name)) (strips_value v)
strips_item (enum_option o) = strips_option o
strips_item (enum_reserved x) = strips_reserved x
strips_item (enum_empty at) = strips_spot (sign s.Semicolon) at

pub strips_enum : (e : Enum) → Strips (an_enum e) (an_enum (unplaced.an_enum e))
strips_enum e = strips_then (strips_token (ident (codes "enum")) refl) (strips_then (strips_word e.name) (strips_then (strips_token (sign s.LeftBrace) refl)
    (strips_then (strips_each an_enum_item unplaced.an_enum_item strips_item e.items) (strips_token (sign s.RightBrace) (refl, refl)))))

-- ---- services

abbrev typed : Option Span → TypeName → MethodType
typed o n = record { stream = o; name = n }

strips_typed : (o : Option Span) (n : TypeName) → Strips (a_method_type (typed o n)) (a_method_type (unplaced.a_method_type (typed o n)))
strips_typed None n = strips_then (strips_the (sign s.LeftParen)) (strips_then strips_nothing
    (strips_unless (codes "stream" ∷ []) (shows_then (shows_type_name n)) (strips_then (strips_type_name n) (strips_the (sign s.RightParen)))))
strips_typed (Some at) n = strips_then (strips_the (sign s.LeftParen)) (strips_then (strips_spot (ident (codes "stream")) at)
    (strips_unless [] (shows_then (shows_type_name n)) (strips_then (strips_type_name n) (strips_the (sign s.RightParen)))))

strips_method_type : (t : MethodType) → Strips (a_method_type t) (a_method_type (unplaced.a_method_type t))
strips_method_type t = strips_typed t.stream t.name

strips_method_item : (i : MethodItem) → Strips (a_method_item i) (a_method_item (unplaced.a_method_item i))
strips_method_item (method_option o) = strips_option o
strips_method_item (method_empty at) = strips_spot (sign s.Semicolon) at

strips_method_end : (o : Option MethodBody) (end : ℕ) → Strips (a_method_end o end) (a_method_end (option_map unplaced.a_method_body o) 0)
strips_method_end None end = strips_token (sign s.Semicolon) refl
strips_method_end (Some b) end = strips_then (strips_token (sign s.LeftBrace) refl)
    (strips_then (strips_each a_method_item unplaced.a_method_item strips_method_item b.items) (strips_token (sign s.RightBrace) (refl, refl)))

strips_method : (m : Method) → Strips (a_method m) (a_method (unplaced.a_method m))
strips_method m = strips_then (strips_token (ident (codes "rpc")) refl) (strips_then (strips_word m.name) (strips_then (strips_method_type m.input)
    (strips_then (strips_the (ident (codes "returns"))) (strips_then (strips_method_type m.output) (strips_method_end m.body m.span.end)))))

strips_service_item : (i : ServiceItem) → Strips (a_service_item i) (a_service_item (unplaced.a_service_item i))
strips_service_item (service_method m) = strips_method m
strips_service_item (service_option o) = strips_option o
strips_service_item (service_empty at) = strips_spot (sign s.Semicolon) at

pub strips_service : (x : Service) → Strips (a_service x) (a_service (unplaced.a_service x))
strips_service x = strips_then (strips_token (ident (codes "service")) refl) (strips_then (strips_word x.name) (strips_then (strips_token (sign s.LeftBrace) refl)
    (strips_then (strips_each a_service_item unplaced.a_service_item strips_service_item x.items) (strips_token (sign s.RightBrace) (refl, refl)))))
