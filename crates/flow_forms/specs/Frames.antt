-- A machine's frame: where it stands, and its fields.
use Rattle.flow_forms.specs.declared.forms.At.{At}

pub record Frame (P S : Type 0) : Type 0 where
  pub at : At P
  pub fields : S
