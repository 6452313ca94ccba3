-- What a reply carries behind its header, and the format of each body.
use Rattle.std.specs.Prelude.{List, [], Bool, true, false, cond, ◌&&◌, ℕ, eqb}
use Rattle.wire.specs.Codec.{Codec, empty, seq, as_type}
use Rattle.wire.specs.Field.{entry_version, limited}
use Rattle.wire.specs.Listed.{is_nil}
use Rattle.field.specs.FieldRead.{limited_text}
use Rattle.statistics.specs.Statistics as stats
use Rattle.message.specs.declared.Form.{Form}
use Rattle.message.specs.declared.Form.TheVariants as form
use Rattle.message.specs.Arguments.{value_limit, is_empty}
use Rattle.message.specs.Listing.{listing}
use Rattle.message.specs.ReplyTable.{Body, nothing, old, old_none, value, versioned, text, statistics, entries, keys}

abbrev pub text_limit : ℕ
text_limit = 64

-- what is not sent is 0 or empty
pub record Payload : Type 0 where
  pub entry_version : ℕ
  pub value : List ℕ
  pub text : List ℕ
  pub statistics : List ℕ
  -- a key and a value each; where keys alone are sent, the values are empty
  pub entries : List (List ℕ × List ℕ)

abbrev pub payload : ℕ → List ℕ → List ℕ → Payload
payload e v t = record { entry_version = e; value = v; text = t; statistics = []; entries = [] }

abbrev pub counted : List ℕ → Payload
counted ns = record { entry_version = 0; value = []; text = []; statistics = ns; entries = [] }

abbrev pub bulk_payload : List (List ℕ × List ℕ) → Payload
bulk_payload es = record { entry_version = 0; value = []; text = []; statistics = []; entries = es }

abbrev pub no_entry_version : Payload → Bool
no_entry_version p = eqb p.entry_version 0

abbrev pub no_value : Payload → Bool
no_value p = is_empty p.value

abbrev pub no_text : Payload → Bool
no_text p = is_empty p.text

abbrev pub no_statistics : Payload → Bool
no_statistics p = is_empty p.statistics

abbrev pub no_entries : Payload → Bool
no_entries p = is_nil p.entries

-- neither statistics nor entries
abbrev pub no_lists : Payload → Bool
no_lists p = no_statistics p && no_entries p

unfoldable pub no_body : Codec Payload
no_body = as_type (λ p. no_lists p && (no_entry_version p && (no_value p && no_text p))) (λ u. payload 0 [] []) (λ p. tt) empty

unfoldable pub value_body : ℕ → Codec Payload
value_body lim = as_type (λ p. no_lists p && (no_entry_version p && no_text p)) (λ v. payload 0 v []) (λ p. p.value) (limited lim)

unfoldable pub versioned_body : Codec Payload
versioned_body =
    as_type (λ p. no_lists p && no_text p) (λ p. payload p.0 p.1 []) (λ p. (p.entry_version, p.value)) (seq entry_version λ _. limited value_limit)

unfoldable pub text_body : Codec Payload
text_body = as_type (λ p. no_lists p && (no_entry_version p && no_value p)) (λ t. payload 0 [] t) (λ p. p.text) (limited_text text_limit)

unfoldable pub statistics_body : Codec Payload
statistics_body = as_type (λ p. no_entries p && (no_entry_version p && (no_value p && no_text p))) counted (λ p. p.statistics) stats.statistics

unfoldable pub listed_body : Bool → Codec Payload
listed_body values = as_type (λ p. no_statistics p && (no_entry_version p && (no_value p && no_text p))) bulk_payload (λ p. p.entries) (listing values)

unfoldable pub fields_of : Form → Codec Payload
fields_of form.Nothing = no_body
fields_of (form.Value lim) = value_body lim
fields_of form.Versioned = versioned_body
fields_of form.Text = text_body
fields_of form.Statistics = statistics_body
fields_of (form.Listed values) = listed_body values

-- "Old value is sent only if flag 0x0001 was set"
abbrev pub old_form : Bool → ℕ → Form
old_form flag lim = cond flag (form.Value lim) form.Nothing

-- which fields a body has
abbrev pub form_of : Bool → Body → Form
form_of flag nothing = form.Nothing
form_of flag old = old_form flag value_limit
form_of flag old_none = old_form flag 0
form_of flag value = form.Value value_limit
form_of flag versioned = form.Versioned
form_of flag text = form.Text
form_of flag statistics = form.Statistics
form_of flag entries = form.Listed true
form_of flag keys = form.Listed false
