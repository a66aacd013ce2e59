-- What is EMITTED of the texts of a script and a certificate.
use Rattle.std.specs.Prelude.{◌≡◌, true, false, Some, Err}
use Rattle.sdv_check.specs.Headline.{EachRunOf}
use Rattle.sdv_check.specs.Verified.{Acceptance, IsAccepted, Verified}
use Rattle.sdv_graph.specs.Graph.{Graph}
use Rattle.sdv_table.specs.declared.fault.Part.{Part}
use Rattle.sdv_table.specs.Fits.{Fits, HasNoRoom}
use Rattle.sdv_table.specs.Table.{table_of}
use Rattle.sdv_emit.specs.declared.emitting.Emitted.{Emitted}
use Rattle.sdv_emit.specs.declared.fault.EmitFault.{EmitFault}
use Rattle.sdv_emit.specs.declared.fault.EmitFault.TheVariants.{Name, Verify, Wide, Memory}
use Rattle.sdv_emit.specs.CText.{Text, c_text, little_endian}
use Rattle.sdv_emit.specs.Identifier.{is_identifier}
use Rattle.sdv_emit.specs.Reading.{words_in, words_of_bytes}

-- The table of the graph that was accepted, with the certificate's bound, was printed, as that of a script in this file and
-- as an array of this name.
pub record EmitsGraph (a : Acceptance) (file name : Text) (e : Emitted) : Type 0 where
  pub fits : Fits a.graph
  pub identifier : is_identifier name ≡ true
  pub text : e.text.items ≡ c_text file name a.bound a.graph (table_of a.graph a.bound)
  pub binary : e.binary.items ≡ little_endian (table_of a.graph a.bound)
  -- what a compiler reads in the text, and a loader in the bytes, is that table
  pub text_read : words_in e.text.items ≡ Some (table_of a.graph a.bound)
  pub binary_read : words_of_bytes e.binary.items ≡ table_of a.graph a.bound

-- The certificate is closed for the graph of the script, with the bound that is printed, and the table of that graph was
-- printed.
pub record Emits (script certificate file name : Text) (e : Emitted) : Type 0 where
  pub acceptance : Acceptance
  pub accepted : IsAccepted script certificate acceptance
  pub promised : EachRunOf script acceptance.bound
  pub emitted : EmitsGraph acceptance file name e

-- why a graph has no table; memory may be refused at any time
abbrev pub HasNoTable : Graph → EmitFault → Type 0
HasNoTable g (Wide part) = HasNoRoom g part
HasNoTable g Memory = Unit {0}
HasNoTable g fault = ⊥

-- a part of the accepted graph has no room in a table
pub record IsTooWide (script certificate : Text) (part : Part) : Type 0 where
  pub acceptance : Acceptance
  pub accepted : IsAccepted script certificate acceptance
  pub wide : HasNoRoom acceptance.graph part

-- why none was printed; memory may be refused at any time
abbrev pub EmitFails : (script certificate name : Text) → EmitFault → Type 0
EmitFails script certificate name Name = is_identifier name ≡ false
EmitFails script certificate name (Verify fault) = Verified script certificate (Err fault)
EmitFails script certificate name (Wide part) = IsTooWide script certificate part
EmitFails script certificate name Memory = Unit {0}
