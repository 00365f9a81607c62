pub mod Rules
pub mod Declarations
pub mod Scope
pub mod DeclarationViews
pub mod Views
pub mod Once
pub mod Found
