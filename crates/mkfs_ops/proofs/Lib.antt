mod FirstKeys
mod FirstStores
