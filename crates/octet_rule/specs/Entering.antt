-- What an access comes to when it begins.
use Rattle.std.specs.Prelude.{◌≡◌, ◌≢◌, ℕ, Some}
use Rattle.octet_state.specs.declared.act.Mode.{Mode}
use Rattle.octet_state.specs.declared.act.Act.{Act}
use Rattle.octet_state.specs.declared.act.Act.TheVariants.{Pass}
use Rattle.octet_state.specs.declared.state_word.StateWord.{StateWord}
use Rattle.octet_state.specs.Words.{packed_state, unpacked_state}
use Rattle.octet_state.specs.Table.{decided}
use Rattle.octet_state.specs.Steps.{ToLoad, state_in}
use Rattle.octet_state.specs.NextStep.{access_of}
use Rattle.octet_rule.specs.Views.{SeatView}
use Rattle.octet_rule.specs.Rule.{Steps}
use Rattle.octet_rule.specs.declared.entered.Entered.{Entered}
use Rattle.octet_rule.specs.declared.entered.Entered.TheVariants.{Made, Loaded}

-- the access is made at once, in two steps: a load of a state that lets the thread pass, and the access
pub record IsMadeAtOnce (object : ℕ) (mode : Mode) (value : ℕ) (v : SeatView) (told : ℕ) (w : SeatView) : Type 0 where
  pub word : ℕ
  pub between : SeatView
  pub loads : Steps (ToLoad object mode) v word between
  pub says : decided (state_in (unpacked_state word)) v.number mode v.thread.count ≡ Pass
  pub accesses : Steps (access_of mode value) between told w

-- the load alone is made: the word is that of the state, for which the table says another act than to pass
pub record IsLoaded (object : ℕ) (mode : Mode) (v : SeatView) (word : ℕ) (state : StateWord) (act : Act) (w : SeatView) : Type 0 where
  pub loads : Steps (ToLoad object mode) v word w
  pub holds : unpacked_state word ≡ Some state
  pub packed : packed_state state ≡ word
  pub says : act ≡ decided state v.number mode v.thread.count
  pub waits : act ≢ Pass

-- an access begins: it is made at once, or its load alone is made
abbrev pub Enters : ℕ → Mode → ℕ → SeatView → Entered → SeatView → Type 0
Enters object mode value v (Made told) w = IsMadeAtOnce object mode value v told w
Enters object mode value v (Loaded word state act) w = IsLoaded object mode v word state act w
