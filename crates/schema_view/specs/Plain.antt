-- Files whose names have no dots, as those that are read from sources.
use Rattle.std.specs.Prelude.{◌≡◌, false, Option}
use Rattle.std.specs.List.{AllByRecursion}
use Rattle.descriptor_records.specs.Content.{Text, FieldContent, OneofContent, EnumValueContent, EnumContent, MethodContent, ServiceContent, MessageContent, message, MessageContents, no_messages, more_messages, FileContent}
use Rattle.schema_view.specs.Files.{text_of}
use Rattle.schema_view.specs.Means.{has_dot}

abbrev pub HasPlainName : Option Text → Type 0
HasPlainName name = has_dot (text_of name) ≡ false

pub record IsPlainEnum (e : EnumContent) : Type 0 where
  pub name : HasPlainName e.name
  pub values : AllByRecursion (λ (v : EnumValueContent). HasPlainName v.name) e.value

pub record IsPlainService (s : ServiceContent) : Type 0 where
  pub name : HasPlainName s.name
  pub methods : AllByRecursion (λ (m : MethodContent). HasPlainName m.name) s.method

abbrev mutual
  pub IsPlainMessage : MessageContent → Type 0
  IsPlainMessage (message name fs xs nested es rs os o rr rn) =
      HasPlainName name
      × AllByRecursion (λ (f : FieldContent). HasPlainName f.name) fs
      × ArePlainMessages nested
      × AllByRecursion IsPlainEnum es
      × AllByRecursion (λ (x : FieldContent). HasPlainName x.name) xs
      × AllByRecursion (λ (q : OneofContent). HasPlainName q.name) os

  pub ArePlainMessages : MessageContents → Type 0
  ArePlainMessages no_messages = Unit {0}
  ArePlainMessages (more_messages m ms) = IsPlainMessage m × ArePlainMessages ms

pub record IsPlainFile (f : FileContent) : Type 0 where
  pub messages : AllByRecursion IsPlainMessage f.message_type
  pub enums : AllByRecursion IsPlainEnum f.enum_type
  pub services : AllByRecursion IsPlainService f.service
  pub extensions : AllByRecursion (λ (x : FieldContent). HasPlainName x.name) f.extension
