mod Products
mod Dividing
