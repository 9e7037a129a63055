-- What is read of files, and why something is not read.
use Rattle.std.specs.Prelude.{◌≡◌, ℕ, ◌⊎◌, List, [], ◌∷◌, ◌++◌, Result, Ok, Err, codes, string_bytes}
use Rattle.run_parts.specs.declared.files.ReadFault.{ReadFault}
use Rattle.run_parts.specs.declared.files.ReadFault.TheVariants as read
use Rattle.run_parts.specs.declared.files.FileFault.{FileFault}
use Rattle.run_parts.specs.declared.files.FileFault.TheVariants as files

-- what a read answers: bytes, or why there are none
abbrev pub Reply : Type 0
Reply = Result (List ℕ) ReadFault

-- what a read of a path may answer, of what the files are before it and after it
abbrev pub Gives : Type 0 → Type 1
Gives F = F → List ℕ → Reply → F → Type 0

-- how it is told that a path was not read: by this path, or memory runs out
abbrev pub IsToldAs : List ℕ → ReadFault → FileFault → Type 0
IsToldAs path read.Read (files.Read told) = string_bytes told ≡ path
IsToldAs path read.Read (files.NotUtf8 name) = ⊥
IsToldAs path read.Read files.Memory = Unit {0}
IsToldAs path read.Memory e = e ≡ files.Memory

-- where the source of a name lies
abbrev pub path_under : List ℕ → List ℕ → List ℕ
path_under root name = root ++ (codes "/" ++ name)

-- reads of the named sources, one after another, give these contents
abbrev pub ReadsEach : {F : Type 0} → Gives F
    → List ℕ → List (List ℕ) → List (List ℕ) → F → F → Type 0
ReadsEach gives root [] [] f g = f ≡ g
ReadsEach gives root [] (c ∷ cs) f g = ⊥
ReadsEach gives root (n ∷ ns) [] f g = ⊥
ReadsEach gives root (n ∷ ns) (c ∷ cs) f g = (h : _) × gives f (path_under root n) (Ok c) h
    × ReadsEach gives root ns cs h g

-- The first of the named sources that is not read is told, or memory runs out at one of them,
-- before its read or after it; nothing is read after that.
abbrev pub RefusesSources : {F : Type 0} → Gives F
    → List ℕ → List (List ℕ) → F → FileFault → F → Type 0
RefusesSources gives root [] f e g = ⊥
RefusesSources gives root (n ∷ ns) f e g = ((e ≡ files.Memory) × (f ≡ g))
    ⊎ (((r : ReadFault) × gives f (path_under root n) (Err r) g
    × IsToldAs (path_under root n) r e)
    ⊎ ((c : List ℕ) × (h : _) × gives f (path_under root n) (Ok c) h
    × (((e ≡ files.Memory) × (h ≡ g)) ⊎ RefusesSources gives root ns h e g)))
