-- Flaws that come from below.
use Rattle.label.specs.declared.LabelFault.{LabelFault}
use Rattle.image.specs.declared.flaw.Broken.{Broken}
use Rattle.image.specs.declared.flaw.Flaw.{Flaw}
use Rattle.image.specs.declared.flaw.Flaw.TheVariants.{Label, Rule}

abbrev pub label_flaw : LabelFault → Flaw
label_flaw f = Label f

abbrev pub rule_flaw : Broken → Flaw
rule_flaw x = Rule x
