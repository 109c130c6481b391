-- The line of each finding of a check. Names of entries are in lower-case hexadecimal, numbers in decimal.
use Rattle.std.specs.Prelude.{ℕ, List, ◌++◌, Option, None, Some, codes}
use Rattle.std.specs.Fmt.{decimal}
use Rattle.hex.specs.Hex.{encode_lower}
use Rattle.fsck_findings.specs.declared.finding.Numbered.{Numbered}
use Rattle.fsck_findings.specs.declared.finding.Numbered.TheVariants as tables
use Rattle.fsck_findings.specs.declared.finding.Finding.{Finding}
use Rattle.fsck_findings.specs.declared.finding.Finding.TheVariants as findings

-- the word of a table
abbrev pub word : Numbered → List ℕ
word tables.Inode = codes "inode"
word tables.Name = codes "name"
word tables.Block = codes "block"
word tables.Object = codes "object"

-- a name in hexadecimal, and a dash where there is none
abbrev pub name_text : Option (List ℕ) → List ℕ
name_text None = codes "-"
name_text (Some name) = encode_lower name

-- the old number and the new one
abbrev pub change_text : ℕ → ℕ → List ℕ
change_text was now = decimal was ++ codes " is " ++ decimal now

abbrev pub entry_line : ℕ → Option (List ℕ) → List ℕ
entry_line parent name = codes "entry " ++ decimal parent ++ codes " " ++ name_text name ++ codes " dropped"

abbrev pub removed_line : Numbered → ℕ → List ℕ
removed_line table id = word table ++ codes " " ++ decimal id ++ codes " removed"

abbrev pub size_line : ℕ → ℕ → ℕ → List ℕ
size_line inode was now = codes "inode " ++ decimal inode ++ codes " size " ++ change_text was now

abbrev pub next_line : Numbered → ℕ → ℕ → List ℕ
next_line table was now = codes "next " ++ word table ++ codes " " ++ change_text was now

abbrev pub count_line : Numbered → ℕ → ℕ → ℕ → List ℕ
count_line table id was now = word table ++ codes " " ++ decimal id ++ codes " count " ++ change_text was now

abbrev pub stored_line : ℕ → ℕ → ℕ → List ℕ
stored_line slot inode blockno = codes "slot " ++ decimal slot ++ codes " inode " ++ decimal inode ++ codes " block " ++ decimal blockno ++ codes " stored"

abbrev pub key_line : List ℕ → List ℕ
key_line key = codes "key " ++ key ++ codes " removed"

-- the line of a finding, without the byte at its end
abbrev pub line_of : Finding → List ℕ
line_of (findings.EntryDropped parent name) = entry_line parent name
line_of findings.RootMade = codes "root made"
line_of findings.LostAndFoundMade = codes "lost+found made"
line_of (findings.Moved inode) = codes "inode " ++ decimal inode ++ codes " moved"
line_of (findings.Removed table id) = removed_line table id
line_of (findings.TargetDropped inode) = codes "target " ++ decimal inode ++ codes " dropped"
line_of (findings.AttributeDropped inode name_id) = codes "attribute " ++ decimal inode ++ codes " " ++ decimal name_id ++ codes " dropped"
line_of (findings.Size inode was now) = size_line inode was now
line_of (findings.LinkDropped inode blockno) = codes "link " ++ decimal inode ++ codes " " ++ decimal blockno ++ codes " dropped"
line_of (findings.Next table was now) = next_line table was now
line_of (findings.ObjectMissing id) = codes "object " ++ decimal id ++ codes " missing"
line_of (findings.SlotDropped slot) = codes "slot " ++ decimal slot ++ codes " dropped"
line_of (findings.SlotStored slot inode blockno) = stored_line slot inode blockno
line_of (findings.BlockLost inode blockno) = codes "inode " ++ decimal inode ++ codes " block " ++ decimal blockno ++ codes " lost"
line_of (findings.Count table id was now) = count_line table id was now
line_of (findings.KeyRemoved key) = key_line key
