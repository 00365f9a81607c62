pub mod ReadsExpr
