-- A reader of which a copy is kept.
use Rattle.esr_script.specs.declared.copier.TeeReader.{TeeReader}

-- `c.lower`
abbrev pub lower : {R : Type 0} → TeeReader R → R
lower c = c.lower
