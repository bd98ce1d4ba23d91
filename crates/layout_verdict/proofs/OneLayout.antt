-- Three files say one layout.
use Rattle.std.proofs.Common.{◌≡◌, ℕ, List}
use Rattle.arch_file.specs.declared.arch.Arch.{Arch}
use Rattle.blif.specs.declared.circuit.Circuit.{Circuit}
use Rattle.grid.specs.declared.Strip.{Strip}
use Rattle.implements.specs.Layouts.{Layout}
use Rattle.layout_files.specs.LayoutFiles.{IsInFiles}
use Rattle.layout_verdict.specs.Texts.{IsReadFrom}
use Rattle.layout_verdict.specs.Verdicts.{CanBeFiled}

same_files : (arch arch' : Arch) (circuit circuit' : Circuit) (strip strip' : Strip) (net place route : List ℕ) (layout : Layout) → arch ≡ arch' → circuit ≡ circuit' → strip ≡ strip' → IsInFiles circuit arch strip net place route layout
    → IsInFiles circuit' arch' strip' net place route layout
same_files arch arch' circuit circuit' strip strip' net place route layout e f g h = rw (e, f, g) at h
