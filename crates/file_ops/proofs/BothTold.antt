-- Facts of what a keeper and a link tell together, and of the bytes of a file.
use Rattle.std.proofs.Common.{◌≡◌, ℕ, List, length, Option, None, Some, subst}
use Rattle.s3_rows.specs.Tables.{Tables}
use Rattle.s3_rows.specs.Told.{Told, IfTold}
use Rattle.s3_devices.specs.Objects.{Objects}
use Rattle.s3_devices.specs.Told as stores
use Rattle.file_ops.specs.FileBytes.{IfBothTold, IfFile, IsFile}

-- ---- what is told

pub IfBothTold-all : (tables : Option Told) (objects : Option Objects) (P : Tables → Objects → Type 0) → ((t : Tables) (o : Objects) → P t o) → IfBothTold tables objects P
IfBothTold-all None objects P all = tt
IfBothTold-all (Some s) None P all = tt
IfBothTold-all (Some s) (Some o) P all = all s.tables o

-- a fact of both, from one of each
pub IfBothTold-from : (tables : Option Told) (objects : Option Objects) (A : Tables → Type 0) (B : Objects → Type 0) (P : Tables → Objects → Type 0)
    → ((t : Tables) (o : Objects) → A t → B o → P t o) → IfTold tables A → stores.IfTold objects B → IfBothTold tables objects P
IfBothTold-from None objects A B P follows a b = tt
IfBothTold-from (Some s) None A B P follows a b = tt
IfBothTold-from (Some s) (Some o) A B P follows a b = follows s.tables o a b

pub IfBothTold-tables : (tables : Option Told) (objects : Option Objects) (A : Tables → Type 0) (P : Tables → Objects → Type 0)
    → ((t : Tables) (o : Objects) → A t → P t o) → IfTold tables A → IfBothTold tables objects P
IfBothTold-tables None objects A P follows a = tt
IfBothTold-tables (Some s) None A P follows a = tt
IfBothTold-tables (Some s) (Some o) A P follows a = follows s.tables o a

pub IfBothTold-weaker : (tables : Option Told) (objects : Option Objects) (P Q : Tables → Objects → Type 0)
    → ((t : Tables) (o : Objects) → P t o → Q t o) → IfBothTold tables objects P → IfBothTold tables objects Q
IfBothTold-weaker None objects P Q follows p = tt
IfBothTold-weaker (Some s) None P Q follows p = tt
IfBothTold-weaker (Some s) (Some o) P Q follows p = follows s.tables o p

pub IfBothTold-weaker2 : (tables : Option Told) (objects : Option Objects) (P Q R : Tables → Objects → Type 0)
    → ((t : Tables) (o : Objects) → P t o → Q t o → R t o) → IfBothTold tables objects P → IfBothTold tables objects Q → IfBothTold tables objects R
IfBothTold-weaker2 None objects P Q R follows p q = tt
IfBothTold-weaker2 (Some s) None P Q R follows p q = tt
IfBothTold-weaker2 (Some s) (Some o) P Q R follows p q = follows s.tables o p q

-- what is told later, where the same is told
pub IfBothTold-same : (tables now : Option Told) (objects after : Option Objects) (P : Tables → Objects → Type 0) → now ≡ tables → after ≡ objects
    → IfBothTold now after P → IfBothTold tables objects P
IfBothTold-same tables now objects after P same others p =
    subst (λ x. IfBothTold x objects P) same (subst (λ y. IfBothTold now y P) others p)

-- ---- the bytes of a file

module _ (tables : Option Told) (objects : Option Objects) (inode size block_size : ℕ) where
  pub IfFile-all : (P : List ℕ → Type 0) → ((file : List ℕ) → length file ≡ size → P file) → IfFile tables objects inode size block_size P
  IfFile-all P all = IfBothTold-all tables objects (λ t o. (file : List ℕ) → IsFile t o inode size block_size file → P file) (λ t o file is. all file is.long)

  pub IfFile-weaker : (P Q : List ℕ → Type 0) → ((file : List ℕ) → length file ≡ size → P file → Q file)
      → IfFile tables objects inode size block_size P → IfFile tables objects inode size block_size Q
  IfFile-weaker P Q follows p =
      IfBothTold-weaker tables objects (λ t o. (file : List ℕ) → IsFile t o inode size block_size file → P file) (λ t o. (file : List ℕ) → IsFile t o inode size block_size file → Q file)
      (λ t o fact file is. follows file is.long (fact file is)) p

  pub IfFile-weaker2 : (P Q R : List ℕ → Type 0) → ((file : List ℕ) → length file ≡ size → P file → Q file → R file)
      → IfFile tables objects inode size block_size P → IfFile tables objects inode size block_size Q → IfFile tables objects inode size block_size R
  IfFile-weaker2 P Q R follows p q =
      IfBothTold-weaker2 tables objects (λ t o. (file : List ℕ) → IsFile t o inode size block_size file → P file) (λ t o. (file : List ℕ) → IsFile t o inode size block_size file → Q file)
      (λ t o. (file : List ℕ) → IsFile t o inode size block_size file → R file)
      (λ t o first second file is. follows file is.long (first file is) (second file is)) p q

  pub IfFile-same : (now : Option Told) (after : Option Objects) (P : List ℕ → Type 0) → now ≡ tables → after ≡ objects
      → IfFile now after inode size block_size P → IfFile tables objects inode size block_size P
  IfFile-same now after P same others p =
      IfBothTold-same tables now objects after (λ t o. (file : List ℕ) → IsFile t o inode size block_size file → P file) same others p
