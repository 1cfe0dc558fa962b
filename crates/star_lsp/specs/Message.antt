-- The messages that the service sends, as JSON-RPC 2.0 has them.
use Rattle.std.specs.Prelude.{◌≡◌, ◌⊎◌, ◌++◌, ◌∷◌, [], ℕ, ℤ, List, Some, codes, negsuc, option_and_then}
use Rattle.serde_json.specs.Data.{Data, member, no_members, number, object, string, unsigned}
use Rattle.serde_json.specs.Find.{as_str, get, of_integer}
use Rattle.serde_json.specs.View.{view}
use Rattle.serde_json.specs.declared.value.Value.{Value}
use Rattle.star_bundle.specs.Bundle.{json_of}
use Rattle.star_lsp.specs.declared.message.Refusal.{Refusal}
use Rattle.star_lsp.specs.declared.message.Refusal.TheVariants.{BadParameters, Memory, NoMessage, NoMethod, NoVariable, NotAName, NotInitialized, NotJson, NotParsed, ShutDown, Taken}

-- the codes of errors: those of JSON-RPC, ServerNotInitialized and RequestFailed
abbrev pub code_of : Refusal → ℤ
code_of NotJson = negsuc 32699
code_of NoMessage = negsuc 32599
code_of NoMethod = negsuc 32600
code_of BadParameters = negsuc 32601
code_of Memory = negsuc 32602
code_of NotInitialized = negsuc 32001
code_of ShutDown = negsuc 32599
code_of NotParsed = negsuc 32802
code_of NoVariable = negsuc 32802
code_of NotAName = negsuc 32601
code_of Taken = negsuc 32802

-- the answer with a result
abbrev pub answer_data : Data → Data → Data
answer_data id found =
    object (member (codes "id") id
    (member (codes "jsonrpc") (string (codes "2.0"))
    (member (codes "result") found no_members)))

-- the answer with an error
abbrev pub refusal_data : Data → Data → Data
refusal_data id error =
    object (member (codes "error") error
    (member (codes "id") id
    (member (codes "jsonrpc") (string (codes "2.0")) no_members)))

abbrev pub notification_data : List ℕ → Data → Data
notification_data method params =
    object (member (codes "jsonrpc") (string (codes "2.0"))
    (member (codes "method") (string method)
    (member (codes "params") params no_members)))

-- an error with a code and a text
abbrev pub error_data : ℤ → List ℕ → Data
error_data code text =
    object (member (codes "code") (number (of_integer code)) (member (codes "message") (string text) no_members))

abbrev pub diagnostic_data : Data → List ℕ → List ℕ → Data
diagnostic_data range code message =
    object (member (codes "code") (string code)
    (member (codes "message") (string message)
    (member (codes "range") range
    (member (codes "severity") (number (unsigned 1))
    (member (codes "source") (string (codes "starload")) no_members)))))

-- .. with places of other causes
abbrev pub related_data : Data → List ℕ → List ℕ → Data → Data
related_data range code message related =
    object (member (codes "code") (string code)
    (member (codes "message") (string message)
    (member (codes "range") range
    (member (codes "relatedInformation") related
    (member (codes "severity") (number (unsigned 1))
    (member (codes "source") (string (codes "starload")) no_members))))))

-- diagnostics for the file with this URI, of this version
abbrev pub publication_data : List ℕ → ℤ → Data → Data
publication_data uri version diagnostics =
    object (member (codes "diagnostics") diagnostics
    (member (codes "uri") (string uri)
    (member (codes "version") (number (of_integer version)) no_members)))

-- a message answers the request with this id
abbrev pub IsAnswerTo : Data → Data → Type 0
IsAnswerTo id message = (found : Data) × ((message ≡ answer_data id found) ⊎ (message ≡ refusal_data id found))

-- a message asks for something with this id, by some method
abbrev pub Asks : Data → Data → Type 0
Asks message id = (method : List ℕ) × (get (codes "id") message ≡ Some id) × (option_and_then as_str (get (codes "method") message) ≡ Some method)

-- a content is a request with this id
abbrev pub IsRequest : List ℕ → Data → Type 0
IsRequest content id = (message : Data) × (json_of content ≡ Some message) × Asks message id

-- between old and new just one message was added, the answer to this request
abbrev pub Answers : Data → List Value → List Value → Type 0
Answers id old new = (v : Value) × (new ≡ old ++ v ∷ []) × IsAnswerTo id (view v)
